use Rattle.std.proofs.Common.{ap, ◌∙◌}
use Rattle.std.specs.Prelude.{bytes_eq}
use Rattle.jani_table.specs.Operators.{op_of, op_text, ops}
use Rattle.jani_table.proofs.Found.{found_here, found_later, found_nowhere}
use Rattle.jani_table.proofs.operator.JaniOp.of.Goals as goal

pub returns-then-eq : goal.returns-then-eq
unfolding op_of
returns-then-eq c =
    found_here (λ o. bytes_eq (op_text o) c.args.text.now) ops c.loop-op.op-index _ _ _ (c.eq.ensures ∙ ap (λ s. bytes_eq s c.args.text.now) c.text.ensures) c.if-eq.true c.loop-op-test.true c.loop-op.invariant

pub loop-op-preserved : goal.loop-op-preserved
loop-op-preserved c =
    found_later (λ o. bytes_eq (op_text o) c.args.text.now) ops c.loop-op.op-index _ _ _ (c.eq.ensures ∙ ap (λ s. bytes_eq s c.args.text.now) c.text.ensures) c.if-eq.false c.loop-op-test.true c.loop-op.invariant

pub returns : goal.returns
unfolding op_of
returns c = found_nowhere (λ o. bytes_eq (op_text o) c.args.text.now) ops c.loop-op.op-index _ c.loop-op-test.false c.loop-op.invariant
