use Rattle.std.proofs.Common.{◌∙◌}
use Rattle.op_trees.specs.Tree.{tree}
use Rattle.prism_flat.proofs.Contents.{if_ok}
use Rattle.prop_check.specs.Marks.{marked_is}
use Rattle.prop_check.proofs.marks.marked_expression.Goals as goal

pub returns : goal.returns
returns c = if_ok _ _ (λ r h. h ∙ marked_is (tree c.args.e.now)) c.map_ops.result c.map_ops.ensures.tree
