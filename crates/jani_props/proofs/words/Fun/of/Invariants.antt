use Rattle.std.proofs.Common.{◌≡◌, drop}
use Rattle.std.specs.Prelude.{bytes_eq, find}
use Rattle.jani_props.specs.Words.{fun_text}
use Rattle.jani_props.proofs.words.Fun.of.Given as goal

abbrev pub invariant-loop-word : goal.invariant-loop-word
invariant-loop-word l = find (λ o. bytes_eq (fun_text o) l.text) (drop l.word-index l.word-items) ≡ find (λ o. bytes_eq (fun_text o) l.text) l.word-items
