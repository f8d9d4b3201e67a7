-- What names stand for in the worked answers of trees.
use Rattle.std.specs.Prelude.{ℕ, ℤ, pos, List, [], ◌∷◌, Option, Some, None, if◌then◌else◌}
use Rattle.std.specs.Str.{bytes_eq}
use Rattle.frac_core.specs.Fraction.{is_wide, quotient}
use Rattle.op_trees.specs.declared.tree.Ty.{Ty}
use Rattle.op_trees.specs.declared.tree.Ty.TheVariants as T
use Rattle.op_trees.specs.declared.tree.Value.{Value}
use Rattle.op_trees.specs.declared.tree.Value.TheVariants as V
use Rattle.op_trees.specs.Tree.{Tree, Truth, Number, Name, One, Two, Three}
use Rattle.op_trees.specs.Walk.{Node, TruthNode, NumberNode, NameNode, OneNode, TwoNode, ThreeNode}
use Rattle.prism_tree.specs.declared.operator.PrismOp.{PrismOp}
use Rattle.prism_tree.specs.declared.operator.PrismOp.TheVariants.{Equal, Greater}

abbrev pub number_at : ℤ → Option Value
number_at x = if is_wide (quotient x (pos 1)) then None else Some (V.Number (quotient x (pos 1)))

-- the name `x` has the value x, no other has one
abbrev pub point_values : ℤ → List ℕ → Option Value
point_values x name = if bytes_eq name (120 ∷ []) then number_at x else None

abbrev pub point_types : List ℕ → Option Ty
point_types name = Some T.Int

-- the name `y` has a body
abbrev pub body_of : Tree PrismOp → List ℕ → Option (Tree PrismOp)
body_of body name = if bytes_eq name (121 ∷ []) then Some body else None

abbrev pub turned : PrismOp → PrismOp
turned Greater = Equal
turned o = o

abbrev pub turned_node : Node PrismOp (Tree PrismOp) → Tree PrismOp
turned_node (TruthNode at b) = Truth at b
turned_node (NumberNode at d) = Number at d
turned_node (NameNode at x) = Name at (121 ∷ [])
turned_node (OneNode at o a) = One at (turned o) a
turned_node (TwoNode at o a b) = Two at (turned o) a b
turned_node (ThreeNode at o a b c) = Three at (turned o) a b c
