use Rattle.std.proofs.Common.{◌≡◌, drop}
use Rattle.std.specs.Prelude.{bytes_eq, find}
use Rattle.jani_table.specs.Words.{refused_text}
use Rattle.jani_table.proofs.words.RefusedOp.of.Given as goal

abbrev pub invariant-loop-op : goal.invariant-loop-op
invariant-loop-op l = find (λ t. bytes_eq (refused_text t) l.text) (drop l.op-index l.op-items) ≡ find (λ t. bytes_eq (refused_text t) l.text) l.op-items
