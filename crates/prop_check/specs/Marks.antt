-- One node of an expression with a name marked, and the whole expression node by node. (This project's own.)
use Rattle.std.specs.Prelude.{◌≡◌}
use Rattle.std.proofs.Common.{refl, ap, ap₂, ◌∙◌}
use Rattle.op_trees.specs.Tree.{Truth, Number, Name, One, Two, Three, renamed}
use Rattle.op_trees.specs.Walk.{Node, TruthNode, NumberNode, NameNode, OneNode, TwoNode, ThreeNode, walked}
use Rattle.prism_tree.specs.declared.operator.PrismOp.{PrismOp}
use Rattle.prism_tree.specs.Syntax.{Expression}
use Rattle.prop_trees.specs.Names.{filed_name}

abbrev pub marked_node : Node PrismOp Expression → Expression
marked_node (TruthNode at b) = Truth at b
marked_node (NumberNode at d) = Number at d
marked_node (NameNode at x) = Name at (filed_name x)
marked_node (OneNode at o a) = One at o a
marked_node (TwoNode at o a b) = Two at o a b
marked_node (ThreeNode at o a b c) = Three at o a b c

pub marked_is : (e : Expression) → walked marked_node e ≡ renamed filed_name e
marked_is (Truth at b) = refl
marked_is (Number at d) = refl
marked_is (Name at x) = refl
marked_is (One at o a) = ap (One at o) (marked_is a)
marked_is (Two at o a b) = ap₂ (Two at o) (marked_is a) (marked_is b)
marked_is (Three at o a b c) = ap (λ x. Three at o x (walked marked_node b) (walked marked_node c)) (marked_is a) ∙ ap₂ (Three at o (renamed filed_name a)) (marked_is b) (marked_is c)
