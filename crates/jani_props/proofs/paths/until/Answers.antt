use Rattle.jani_table.specs.Node.{node}
use Rattle.op_trees.specs.Tree.{tree}
use Rattle.jani_props.specs.declared.words.PropOp.TheVariants as P
use Rattle.jani_props.proofs.Cleaned.{has_op}
use Rattle.jani_props.proofs.Parts.{bound_by}
use Rattle.jani_props.proofs.paths.until.Goals as goal

pub returns-in-Some : goal.returns-in-Some
returns-in-Some c = (
  has_op (node c.args.value.now) P.Until c.requires.op,
  c.in_ok-left.ensures.left,
  c.in_ok-left.ensures.right,
  bound_by (node c.args.value.now) tree _ _ c.in-Some.is c.in_ok-bound.ensures,
)

pub returns-in-None : goal.returns-in-None
returns-in-None c = (
  has_op (node c.args.value.now) P.Until c.requires.op,
  c.in_ok-left.ensures.left,
  c.in_ok-left.ensures.right,
  bound_by (node c.args.value.now) tree _ _ c.in-None.is c.in_ok-bound.ensures,
)
