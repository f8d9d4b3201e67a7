use Rattle.std.proofs.Common.{◌≡◌, drop}
use Rattle.std.specs.Prelude.{bytes_eq, find}
use Rattle.jani_table.specs.Operators.{op_text}
use Rattle.jani_table.proofs.operator.JaniOp.of.Given as goal

abbrev pub invariant-loop-op : goal.invariant-loop-op
invariant-loop-op l = find (λ o. bytes_eq (op_text o) l.text) (drop l.op-index l.op-items) ≡ find (λ o. bytes_eq (op_text o) l.text) l.op-items
