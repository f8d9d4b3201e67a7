use Rattle.std.proofs.Common.{◌≡◌, ◌++◌, ◌∷◌, [], map, drop}
use Rattle.std.specs.Prelude.{nat_eq}
use Rattle.process_core.specs.Instance.{numbered}
use Rattle.name_table.specs.Gathered.{body_in}
use Rattle.jani_automata.specs.Automata.{zz_silent}
use Rattle.jani_automata.specs.Translated.{part_if}
use Rattle.prism_to_jani.proofs.syncs.silent_parts.Given as goal

abbrev pub invariant-loop-k : goal.invariant-loop-k
invariant-loop-k l =
    l.parts ++ numbered (λ k m. part_if (nat_eq l.number k) zz_silent ∷ []) l.k (map body_in (drop l.k l.modules))
    ≡ numbered (λ k m. part_if (nat_eq l.number k) zz_silent ∷ []) 0 (map body_in l.modules)
