use Rattle.std.proofs.Common.{◌≡◌, drop}
use Rattle.std.specs.Prelude.{bytes_eq, find}
use Rattle.jani_props.specs.Words.{prop_text}
use Rattle.jani_props.proofs.words.PropOp.of.Given as goal

abbrev pub invariant-loop-op : goal.invariant-loop-op
invariant-loop-op l = find (λ o. bytes_eq (prop_text o) l.text) (drop l.op-index l.op-items) ≡ find (λ o. bytes_eq (prop_text o) l.text) l.op-items
