use Rattle.std.proofs.Common.{◌≡◌, take, map, None}
use Rattle.std.specs.List.{flat_map}
use Rattle.std.specs.Prelude.{[], ◌∷◌}
use Rattle.std.specs.Option.{option_map}
use Rattle.bridge_io.specs.declared.reason.Named.{Named}
use Rattle.op_trees.specs.Tree.{tree}
use Rattle.prism_tree.specs.declared.operator.PrismOp.TheVariants.{Or}
use Rattle.jani_meaning.specs.Elements.{location_number}
use Rattle.prism_translation.specs.Parts.{is_there}
use Rattle.prism_modules.specs.Code.{file_in, names_in, element_of}
use Rattle.jani_to_prism.specs.Joining.{so_far}
use Rattle.jani_to_prism.proofs.initial.at_initial.Given as goal

abbrev pub invariant-loop-n : goal.invariant-loop-n
invariant-loop-n l =
    option_map tree l.all
    ≡ so_far Or None (flat_map (λ (n : Named). is_there (file_in l.names) (names_in l.names) l.el.number (location_number (element_of l.el).automaton n.name) ∷ []) (map (λ n. n) (take l.n-index l.n-items)))
