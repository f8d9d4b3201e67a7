use Rattle.std.specs.Prelude.{map}
use Rattle.std.specs.List.{flat_map}
use Rattle.std.specs.Option.{option_map}
use Rattle.std.proofs.lemmas.Result.{on_ok_weaker}
use Rattle.basics.specs.Lists.{flat_map_of}
use Rattle.op_trees.specs.Tree.{tree}
use Rattle.jani_tree.specs.Syntax.{destination_of}
use Rattle.op_trees.specs.declared.wanted.Wanted.TheVariants as W
use Rattle.basics.specs.Options.{if_some}
use Rattle.jani_check.specs.Demands.{destination_demands, varying}
use Rattle.jani_check.specs.Views.{demand_by}
use Rattle.jani_check.proofs.Parts.{added_of, two_added}
use Rattle.jani_check.proofs.demands.JaniEdgeDemanding.add_demands.Goals as goal

pub returns : goal.returns
returns c =
    let e = c.args.self.now in
    on_ok_weaker c.add_all.result
    (λ h. two_added (map (varying W.Bool) (if_some (option_map tree e.guard))) (flat_map destination_demands (map destination_of e.destinations))
    (map demand_by c.args.list.now.items) (map demand_by c.add_varying.new.list.items) (map demand_by c.add_all.new.list.items) c.in_ok-add_varying.ensures
    (added_of (map demand_by c.add_varying.new.list.items) (map demand_by c.add_all.new.list.items) _ _ h
    (flat_map_of destination_demands destination_of c.as_slice.result.now e.destinations c.as_slice.ensures)))
    c.add_all.ensures
