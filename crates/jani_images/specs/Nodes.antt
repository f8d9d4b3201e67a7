-- The image of an expression, node by node (this project's own rule; Image.antt states it of whole expressions).
use Rattle.op_trees.specs.Tree.{Tree, Truth, Name as At, One, Two, Three}
use Rattle.op_trees.specs.Walk.{Node, TruthNode, NumberNode, NameNode, OneNode, TwoNode, ThreeNode}
use Rattle.process_core.specs.Ready.{Name}
use Rattle.prism_tree.specs.declared.operator.PrismOp.{PrismOp}
use Rattle.jani_table.specs.declared.operator.JaniOp.{JaniOp}
use Rattle.jani_images.specs.Image.{prism_op, literal}

-- one node, over the images of its operands
abbrev pub image_node : (Name → Name) → Node JaniOp (Tree PrismOp) → Tree PrismOp
image_node new (TruthNode at b) = Truth at b
image_node new (NumberNode at d) = literal at d
image_node new (NameNode at x) = At at (new x)
image_node new (OneNode at o a) = One at (prism_op o) a
image_node new (TwoNode at o a b) = Two at (prism_op o) a b
image_node new (ThreeNode at o a b c) = Three at (prism_op o) a b c
