use Rattle.std.specs.Prelude.{map}
use Rattle.std.proofs.Common.{ap}
use Rattle.prism_check.specs.Views.{demand_by}
use Rattle.prism_check.proofs.Asked.{contents_are}
use Rattle.prism_check.proofs.demands.contents_demands.Goals as goal

pub returns : goal.returns
returns c =
    contents_are c.args.vars.now c.args.commands.now _ _ _ (ap (map demand_by) (c.in_ok-list.ensures.items))
    c.in_ok-add_all.ensures c.in_ok-add_all-2.ensures
