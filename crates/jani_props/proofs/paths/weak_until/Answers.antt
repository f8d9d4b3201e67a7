use Rattle.std.proofs.Common.{ap}
use Rattle.jani_table.specs.Node.{node}
use Rattle.jani_props.specs.declared.words.PropOp.TheVariants as P
use Rattle.jani_props.specs.Shape.{takes_steps}
use Rattle.jani_props.proofs.Cleaned.{has_op, two_unbounded}
use Rattle.jani_props.proofs.paths.weak_until.Goals as goal

pub returns : goal.returns
returns c = (
  has_op (node c.args.value.now) P.WeakUntil c.requires.op,
  c.in_ok-left.ensures.left,
  c.in_ok-left.ensures.right,
  two_unbounded (node c.args.value.now) c.requires.clean (ap takes_steps c.requires.op),
)
