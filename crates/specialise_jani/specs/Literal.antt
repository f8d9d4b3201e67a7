-- Literals of JANI for values (jani-model specification, version 1, "Expressions"): a number that isn't whole is a quotient, and a negative one is a
-- negative literal.
use Rattle.std.specs.Prelude.{suc, ℤ, pos, negsuc, Bool, true, false}
use Rattle.op_trees.specs.declared.tree.Ty.{Ty}
use Rattle.op_trees.specs.declared.tree.Value.{Value}
use Rattle.op_trees.specs.Tree.{Number}
use Rattle.jani_table.specs.declared.operator.JaniOp.TheVariants.{Div}
use Rattle.jani_tree.specs.Syntax.{Expression}
use Rattle.constant_folding.specs.Numbers.{whole_literal}
use Rattle.constant_folding.specs.ValueLiterals.{value_literal}

-- a whole number, as a real literal or an int
abbrev pub whole_tree : Bool → ℤ → Expression
whole_tree real (pos n) = Number 0 (whole_literal real false n)
whole_tree real (negsuc n) = Number 0 (whole_literal real true (suc n))

-- the literal of a value and a type
abbrev pub jani_literal : Value → Ty → Expression
jani_literal = value_literal whole_tree Div
