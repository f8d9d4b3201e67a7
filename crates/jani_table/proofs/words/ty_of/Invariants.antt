use Rattle.std.proofs.Common.{◌≡◌, drop}
use Rattle.std.specs.Prelude.{bytes_eq, find}
use Rattle.jani_table.specs.Words.{ty_text}
use Rattle.jani_table.proofs.words.ty_of.Given as goal

abbrev pub invariant-loop-ty : goal.invariant-loop-ty
invariant-loop-ty l = find (λ t. bytes_eq (ty_text t) l.text) (drop l.ty-index l.ty-items) ≡ find (λ t. bytes_eq (ty_text t) l.text) l.ty-items
