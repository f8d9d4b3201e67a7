use Rattle.std.proofs.Common.{◌≡◌, take, map, None}
use Rattle.std.specs.List.{flat_map}
use Rattle.std.specs.Option.{option_map}
use Rattle.op_trees.specs.Tree.{tree}
use Rattle.prism_tree.specs.declared.operator.PrismOp.TheVariants.{And}
use Rattle.prism_translation.specs.Conditions.{location_part}
use Rattle.prism_modules.specs.Code.{file_in, names_in, element_of}
use Rattle.jani_to_prism.specs.Joining.{so_far}
use Rattle.jani_to_prism.proofs.initial.with_locations.Given as goal

abbrev pub invariant-loop-i : goal.invariant-loop-i
invariant-loop-i l = option_map tree l.all ≡ so_far And None (flat_map (location_part (file_in l.names) (names_in l.names)) (map element_of (take l.i l.els)))
