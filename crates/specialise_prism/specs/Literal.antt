-- Literals of PRISM for values (PRISM manual, "Expressions"): a number that isn't whole is a quotient, and a negative one has a minus sign.
use Rattle.std.specs.Prelude.{suc, ℤ, pos, negsuc, Bool, false}
use Rattle.op_trees.specs.declared.tree.Ty.{Ty}
use Rattle.op_trees.specs.declared.tree.Value.{Value}
use Rattle.op_trees.specs.Tree.{Number, One}
use Rattle.prism_tree.specs.declared.operator.PrismOp.TheVariants.{Neg, Div}
use Rattle.prism_tree.specs.Syntax.{Expression}
use Rattle.constant_folding.specs.Numbers.{whole_literal}
use Rattle.constant_folding.specs.ValueLiterals.{value_literal}

-- a whole number, as a real literal or an int
abbrev pub whole_tree : Bool → ℤ → Expression
whole_tree real (pos n) = Number 0 (whole_literal real false n)
whole_tree real (negsuc n) = One 0 Neg (Number 0 (whole_literal real false (suc n)))

-- the literal of a value and a type
abbrev pub prism_literal : Value → Ty → Expression
prism_literal = value_literal whole_tree Div
