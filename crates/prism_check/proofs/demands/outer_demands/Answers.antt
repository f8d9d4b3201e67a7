use Rattle.std.specs.Prelude.{map}
use Rattle.std.proofs.Common.{ap}
use Rattle.prism_check.specs.Views.{demand_by}
use Rattle.prism_check.proofs.Asked.{outer_is}
use Rattle.prism_check.proofs.demands.outer_demands.Goals as goal

pub returns : goal.returns
returns c =
    outer_is c.args.file.now _ _ _ _ _ _ _ _ _ _ c.as_slice.ensures c.as_slice-2.ensures c.as_slice-3.ensures c.as_slice-4.ensures
    (ap (map demand_by) c.new-list.ensures.items)
    c.in_ok-add_all.ensures c.in_ok-add_all-2.ensures c.in_ok-add_all-3.ensures c.in_ok-add_all-4.ensures c.in_ok-add_init.ensures
