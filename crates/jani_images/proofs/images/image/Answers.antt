use Rattle.std.proofs.Common.{◌≡◌, ◌∙◌}
use Rattle.op_trees.specs.Tree.{tree}
use Rattle.op_trees.specs.Walk.{walked}
use Rattle.op_trees.specs.declared.tree.Expr.{Expr}
use Rattle.op_trees.proofs.Made.{if_ok}
use Rattle.prism_tree.specs.declared.operator.PrismOp.{PrismOp}
use Rattle.jani_images.specs.Image.{image}
use Rattle.jani_images.specs.Nodes.{image_node}
use Rattle.jani_images.proofs.Mapped.{image_mapped}
use Rattle.jani_images.proofs.images.image.Goals as goal

pub returns : goal.returns
returns g c =
    let new = g.N.NewNames.new c.args.names.now in
    let e = tree c.args.e.now in
    if_ok (λ (r : Expr PrismOp). tree r ≡ walked (image_node new) e) (λ r. tree r ≡ image new e) (λ r h. h ∙ image_mapped new e) c.map_ops.result c.map_ops.ensures.tree
