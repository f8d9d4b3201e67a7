use Rattle.std.specs.Prelude.{map}
use Rattle.std.specs.List.{flat_map}
use Rattle.std.proofs.Common.{ap}
use Rattle.basics.specs.Lists.{flat_map_of}
use Rattle.jani_tree.specs.Syntax.{const_of, var_of}
use Rattle.jani_check.specs.Demands.{const_demands, var_demands}
use Rattle.jani_check.specs.Views.{demand_by}
use Rattle.jani_check.proofs.Parts.{added_of, three_from_none}
use Rattle.jani_check.proofs.demands.outer_demands.Goals as goal

pub returns : goal.returns
returns c =
    let f = c.args.file.now in
    three_from_none (flat_map const_demands (map const_of f.constants)) (flat_map var_demands (map var_of f.variables)) _ _ _ _ _
    (ap (map demand_by) c.new-list.ensures.items)
    (added_of _ _ _ _ c.in_ok-add_all.ensures (flat_map_of const_demands const_of _ f.constants c.as_slice.ensures))
    (added_of _ _ _ _ c.in_ok-add_all-2.ensures (flat_map_of var_demands var_of _ f.variables c.as_slice-2.ensures))
    c.in_ok-add_varying.ensures
