use Rattle.std.specs.Prelude.{◌≡◌, map, drop}
use Rattle.std.specs.List.{list_any}
use Rattle.jani_tree.specs.Syntax.{element_of}
use Rattle.prism_targets.specs.Crowds.{crowded_by}
use Rattle.prism_targets.proofs.crowds.some_crowded.Given as goal

abbrev pub invariant-loop-e : goal.invariant-loop-e
invariant-loop-e l = list_any (crowded_by l.automata) (map element_of (drop l.e-index l.elements)) ≡ list_any (crowded_by l.automata) (map element_of l.elements)
