-- The image of a JANI expression under new names, a PRISM expression with the same values (this project's own rule): a
-- negative literal is unary minus of a literal, every operator is PRISM's of the same meaning, truth values and other
-- literals stay, and a name becomes its new name. The places that the trees keep are of no account. PRISM's operators are
-- those of the PRISM manual, "The PRISM Language", "Expressions".
use Rattle.std.specs.Prelude.{ℕ, false, if◌then◌else◌}
use Rattle.frac_core.specs.declared.decimal.Decimal.{Decimal}
use Rattle.op_trees.specs.Tree.{Truth, Number, Name as At, One, Two, Three}
use Rattle.process_core.specs.Ready.{Name}
use Rattle.prism_tree.specs.declared.operator.PrismOp.{PrismOp}
use Rattle.prism_tree.specs.declared.operator.PrismOp.TheVariants as P
use Rattle.prism_tree.specs.Syntax as prism
use Rattle.jani_table.specs.declared.operator.JaniOp.{JaniOp}
use Rattle.jani_table.specs.declared.operator.JaniOp.TheVariants as J
use Rattle.jani_tree.specs.Syntax.{Expression}

-- PRISM's operator of the same meaning
abbrev pub prism_op : JaniOp → PrismOp
prism_op J.Ite = P.Ite
prism_op J.Or = P.Or
prism_op J.And = P.And
prism_op J.Not = P.Not
prism_op J.Equal = P.Equal
prism_op J.Unequal = P.Unequal
prism_op J.Less = P.Less
prism_op J.AtMost = P.AtMost
prism_op J.Greater = P.Greater
prism_op J.AtLeast = P.AtLeast
prism_op J.Add = P.Add
prism_op J.Sub = P.Sub
prism_op J.Mul = P.Mul
prism_op J.Rem = P.Mod
prism_op J.Div = P.Div
prism_op J.Floor = P.Floor
prism_op J.Ceil = P.Ceil
prism_op J.Implies = P.Implies
prism_op J.Min = P.Min
prism_op J.Max = P.Max

-- a literal without its sign
abbrev pub unsigned : Decimal → Decimal
unsigned d = record { real = d.real; negative = false; exponent = d.exponent; digits = d.digits }

-- PRISM has no negative literal
abbrev pub literal : ℕ → Decimal → prism.Expression
literal at d = if d.negative then One at P.Neg (Number at (unsigned d)) else Number at d

abbrev pub image : (Name → Name) → Expression → prism.Expression
image new (Truth at b) = Truth at b
image new (Number at d) = literal at d
image new (At at x) = At at (new x)
image new (One at o a) = One at (prism_op o) (image new a)
image new (Two at o a b) = Two at (prism_op o) (image new a) (image new b)
image new (Three at o a b c) = Three at (prism_op o) (image new a) (image new b) (image new c)
