use Rattle.std.proofs.Common.{◌≡◌, ◌++◌, map, drop}
use Rattle.process_core.specs.Instance.{numbered, only_if}
use Rattle.prism_tree.specs.Syntax.{file_of}
use Rattle.jani_tree.specs.Syntax as jani
use Rattle.name_table.specs.Gathered.{body_in}
use Rattle.jani_automata.specs.Automata.{has_silent}
use Rattle.jani_automata.specs.Translated.{silent_vector, silent_vectors}
use Rattle.prism_to_jani.proofs.syncs.add_silent_vectors.Given as goal

abbrev pub invariant-loop-i : goal.invariant-loop-i
invariant-loop-i l =
    map jani.vector_of l.all ++ numbered (λ i m. only_if (has_silent m) (silent_vector (file_of l.file) i)) l.i (map body_in (drop l.i l.m-items))
    ≡ map jani.vector_of l.initial.all ++ silent_vectors (file_of l.file)
