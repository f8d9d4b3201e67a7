use Rattle.std.proofs.Common.{ap, ◌∙◌}
use Rattle.std.specs.Prelude.{bytes_eq}
use Rattle.jani_table.proofs.Found.{found_here, found_later, found_nowhere}
use Rattle.jani_props.specs.Words.{prop_op_of, prop_text}
use Rattle.jani_props.specs.declared.words.TheConstants.{PROP_OPS}
use Rattle.jani_props.proofs.words.PropOp.of.Goals as goal

pub returns-then-eq : goal.returns-then-eq
unfolding prop_op_of
returns-then-eq c = found_here (λ o. bytes_eq (prop_text o) c.args.text.now) PROP_OPS c.loop-op.op-index _ _ _ (c.eq.ensures ∙ ap (λ s. bytes_eq s c.args.text.now) c.text.ensures) c.if-eq.true c.loop-op-test.true c.loop-op.invariant

pub loop-op-preserved : goal.loop-op-preserved
loop-op-preserved c = found_later (λ o. bytes_eq (prop_text o) c.args.text.now) PROP_OPS c.loop-op.op-index _ _ _ (c.eq.ensures ∙ ap (λ s. bytes_eq s c.args.text.now) c.text.ensures) c.if-eq.false c.loop-op-test.true c.loop-op.invariant

pub returns : goal.returns
unfolding prop_op_of
returns c = found_nowhere (λ o. bytes_eq (prop_text o) c.args.text.now) PROP_OPS c.loop-op.op-index _ c.loop-op-test.false c.loop-op.invariant
