use Rattle.std.proofs.Common.{◌≡◌, map, take}
use Rattle.prism_tree.specs.Syntax.{file_of}
use Rattle.jani_tree.specs.Syntax as jani
use Rattle.jani_automata.specs.Code.{names_in}
use Rattle.jani_automata.specs.Translated.{action_vector}
use Rattle.prism_to_jani.proofs.syncs.action_vectors.Given as goal

abbrev pub invariant-loop-a : goal.invariant-loop-a
invariant-loop-a l = map jani.vector_of l.all ≡ map (action_vector (names_in l.names) (file_of l.file)) (map (λ x. x.now) (take l.a-index l.acts))
