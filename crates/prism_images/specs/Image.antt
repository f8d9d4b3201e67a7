-- The image of a PRISM expression under new names, a JANI expression with the same values. This is the project's own rule:
-- minus with one operand takes it from 0, `<=>` is `=`, every other operator is JANI's of the same meaning, truth values
-- and literals stay, and a name becomes its new name. The places that trees keep are of no account. JANI's operators are
-- those of the jani-model specification, version 1, "Expressions".
use Rattle.std.specs.Prelude.{ℕ, List, pos, false}
use Rattle.frac_core.specs.declared.decimal.Decimal.{Decimal}
use Rattle.op_trees.specs.Tree.{Tree, Truth, Number, Name, One, Two, Three}
use Rattle.op_trees.specs.Walk.{Node, TruthNode, NumberNode, NameNode, OneNode, TwoNode, ThreeNode, walked}
use Rattle.prism_tree.specs.declared.operator.PrismOp.{PrismOp}
use Rattle.prism_tree.specs.declared.operator.PrismOp.TheVariants as P
use Rattle.jani_table.specs.declared.operator.JaniOp.{JaniOp}
use Rattle.jani_table.specs.declared.operator.JaniOp.TheVariants as J

-- JANI's operator of the same meaning; minus with one operand becomes minus with two
abbrev pub jani_op : PrismOp → JaniOp
jani_op P.Neg = J.Sub
jani_op P.Mul = J.Mul
jani_op P.Div = J.Div
jani_op P.Add = J.Add
jani_op P.Sub = J.Sub
jani_op P.Less = J.Less
jani_op P.AtMost = J.AtMost
jani_op P.AtLeast = J.AtLeast
jani_op P.Greater = J.Greater
jani_op P.Equal = J.Equal
jani_op P.Unequal = J.Unequal
jani_op P.Not = J.Not
jani_op P.And = J.And
jani_op P.Or = J.Or
jani_op P.Iff = J.Equal
jani_op P.Implies = J.Implies
jani_op P.Ite = J.Ite
jani_op P.Min = J.Min
jani_op P.Max = J.Max
jani_op P.Floor = J.Floor
jani_op P.Ceil = J.Ceil
jani_op P.Mod = J.Rem

-- the literal 0, an int
abbrev pub nought_literal : Decimal
nought_literal = record { real = false; negative = false; exponent = pos 0; digits = 0 }

-- a node with one operand: minus takes it from 0
abbrev pub image_one : ℕ → PrismOp → Tree JaniOp → Tree JaniOp
image_one at P.Neg a = Two at J.Sub (Number at nought_literal) a
image_one at o a = One at (jani_op o) a

-- one node, over the images of its operands
abbrev pub image_node : (List ℕ → List ℕ) → Node PrismOp (Tree JaniOp) → Tree JaniOp
image_node new (TruthNode at b) = Truth at b
image_node new (NumberNode at d) = Number at d
image_node new (NameNode at x) = Name at (new x)
image_node new (OneNode at o a) = image_one at o a
image_node new (TwoNode at o a b) = Two at (jani_op o) a b
image_node new (ThreeNode at o a b c) = Three at (jani_op o) a b c

-- the image of an expression: each node's over its operands'
abbrev pub image : (List ℕ → List ℕ) → Tree PrismOp → Tree JaniOp
image new e = walked (image_node new) e
