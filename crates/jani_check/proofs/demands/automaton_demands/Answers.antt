use Rattle.std.specs.Prelude.{map}
use Rattle.std.specs.List.{flat_map}
use Rattle.std.proofs.Common.{ap}
use Rattle.basics.specs.Lists.{flat_map_of}
use Rattle.jani_tree.specs.Syntax.{edge_of, location_of, var_of}
use Rattle.jani_check.specs.Demands.{edge_demands, location_demands, var_demands}
use Rattle.jani_check.specs.Views.{demand_by}
use Rattle.jani_check.proofs.Parts.{added_of, three_from_none}
use Rattle.jani_check.proofs.demands.automaton_demands.Goals as goal

pub returns : goal.returns
returns c =
    let a = c.args.a.now in
    three_from_none (flat_map var_demands (map var_of a.variables)) (flat_map location_demands (map location_of a.locations))
    (flat_map edge_demands (map edge_of a.edges)) _ _ _ _
    (ap (map demand_by) c.new-list.ensures.items)
    (added_of _ _ _ _ c.in_ok-add_all.ensures (flat_map_of var_demands var_of _ a.variables c.as_slice.ensures))
    (added_of _ _ _ _ c.in_ok-add_all-2.ensures (flat_map_of location_demands location_of _ a.locations c.as_slice-2.ensures))
    (added_of _ _ _ _ c.in_ok-add_all-3.ensures (flat_map_of edge_demands edge_of _ a.edges c.as_slice-3.ensures))
