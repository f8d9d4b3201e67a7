-- Literals of values: a number that isn't whole is a quotient of two ints. (Which literal stands for a value is this project's own rule.)
use Rattle.std.specs.Prelude.{ℕ, ℤ, pos, Bool, true, false, if◌then◌else◌}
use Rattle.frac_core.specs.Fraction.{Fraction, is_whole}
use Rattle.op_trees.specs.declared.tree.Ty.{Ty}
use Rattle.op_trees.specs.declared.tree.Ty.TheVariants as T
use Rattle.op_trees.specs.declared.tree.Value.{Value}
use Rattle.op_trees.specs.declared.tree.Value.TheVariants as V
use Rattle.op_trees.specs.Tree.{Tree, Truth, Two}

abbrev pub is_real : Ty → Bool
is_real T.Bool = false
is_real T.Int = false
is_real T.Real = true

-- by the tree of a whole number, as a real literal or an int, and the operator of quotients
module _ {O : Type 0} (whole_tree : Bool → ℤ → Tree O) (div : O) where
  abbrev pub quotient_tree : ℤ → ℕ → Tree O
  quotient_tree n d = Two 0 div (whole_tree false n) (whole_tree false (pos d))

  abbrev pub number_tree : Fraction → Ty → Tree O
  number_tree q t = if is_whole q then whole_tree (is_real t) q.num else quotient_tree q.num q.den

  -- the literal of a value and a type
  abbrev pub value_literal : Value → Ty → Tree O
  value_literal (V.Truth b) t = Truth 0 b
  value_literal (V.Number q) t = number_tree q t
