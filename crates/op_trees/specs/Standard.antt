-- What the operators mean that languages have in common (PRISM manual, "Expressions"; jani-model specification, version 1,
-- "Expressions"): for each its operands, its type and its value, over unbounded values. That a remainder is undefined for
-- divisors of at most 0, and else has a value from 0 on, is this project's own choice for JANI.
use Rattle.std.specs.Prelude.{ℕ, pos, Bool, true, false, not, ◌&&◌, Option, Some, None, Result, Ok, Err, if◌then◌else◌}
use Rattle.std.specs.Option.{option_map}
use Rattle.std.specs.Ordering.{int_eq}
use Rattle.std.specs.declared.cmp.Ordering.{Ordering}
use Rattle.std.specs.declared.cmp.Ordering.TheVariants as C
use Rattle.frac_core.specs.Fraction.{Fraction, compare, plus, negated, difference, times, over, same_number, whole, is_whole, floor_of, ceil_of, remainder}
use Rattle.frac_core.specs.declared.fraction.FracFail.{FracFail}
use Rattle.frac_core.specs.declared.fraction.FracFail.TheVariants as F
use Rattle.op_trees.specs.declared.tree.Ty.{Ty}
use Rattle.op_trees.specs.declared.tree.Ty.TheVariants as T
use Rattle.op_trees.specs.declared.tree.Value.{Value}
use Rattle.op_trees.specs.declared.tree.Value.TheVariants.{Truth, Number}
use Rattle.op_trees.specs.declared.tree.Next.{Next}
use Rattle.op_trees.specs.declared.tree.Next.TheVariants.{Done, Second, Third, All}
use Rattle.op_trees.specs.declared.tree.EvalFail.{EvalFail}
use Rattle.op_trees.specs.declared.tree.EvalFail.TheVariants as E
use Rattle.op_trees.specs.Meaning.{Meaning}
use Rattle.op_trees.specs.declared.standard.StandardOp.{StandardOp}
use Rattle.op_trees.specs.declared.standard.StandardOp.TheVariants.{Neg, Mul, Div, Add, Sub, Less, AtMost, AtLeast, Greater, Equal, Unequal, Not, And, Or, Iff, Implies, Ite, Min, Max, Floor, Ceil, Mod}

abbrev pub arity : StandardOp → ℕ
arity Neg = 1
arity Not = 1
arity Floor = 1
arity Ceil = 1
arity Ite = 3
arity o = 2

-- ---- types

-- of a number: its own type
abbrev pub is_number : Ty → Option Ty
is_number T.Bool = None
is_number T.Int = Some T.Int
is_number T.Real = Some T.Real

-- of two numbers: int where both are, else real
abbrev pub joined : Ty → Ty → Option Ty
joined T.Bool b = None
joined T.Int T.Bool = None
joined T.Real T.Bool = None
joined T.Int T.Int = Some T.Int
joined T.Int T.Real = Some T.Real
joined T.Real T.Int = Some T.Real
joined T.Real T.Real = Some T.Real

-- of two numbers, or of two bools
abbrev pub alike : Ty → Ty → Option Ty
alike T.Bool T.Bool = Some T.Bool
alike T.Bool T.Int = joined T.Bool T.Int
alike T.Bool T.Real = joined T.Bool T.Real
alike T.Int b = joined T.Int b
alike T.Real b = joined T.Real b

abbrev pub both_bool : Ty → Ty → Option Ty
both_bool T.Bool T.Bool = Some T.Bool
both_bool T.Bool T.Int = None
both_bool T.Bool T.Real = None
both_bool T.Int b = None
both_bool T.Real b = None

abbrev pub both_int : Ty → Ty → Option Ty
both_int T.Int T.Int = Some T.Int
both_int T.Bool b = None
both_int T.Int T.Bool = None
both_int T.Int T.Real = None
both_int T.Real b = None

-- this type, where there is one
abbrev pub with_type : Ty → Option Ty → Option Ty
with_type t None = None
with_type t (Some a) = Some t

abbrev pub sort_one : StandardOp → Ty → Option Ty
sort_one Neg a = is_number a
sort_one Floor a = with_type T.Int (is_number a)
sort_one Ceil a = with_type T.Int (is_number a)
sort_one Not T.Bool = Some T.Bool
sort_one o a = None

abbrev pub sort_two : StandardOp → Ty → Ty → Option Ty
sort_two Mul a b = joined a b
sort_two Add a b = joined a b
sort_two Sub a b = joined a b
sort_two Min a b = joined a b
sort_two Max a b = joined a b
sort_two Div a b = with_type T.Real (joined a b)
sort_two Less a b = with_type T.Bool (joined a b)
sort_two AtMost a b = with_type T.Bool (joined a b)
sort_two AtLeast a b = with_type T.Bool (joined a b)
sort_two Greater a b = with_type T.Bool (joined a b)
sort_two Equal a b = with_type T.Bool (alike a b)
sort_two Unequal a b = with_type T.Bool (alike a b)
sort_two And a b = both_bool a b
sort_two Or a b = both_bool a b
sort_two Iff a b = both_bool a b
sort_two Implies a b = both_bool a b
sort_two Mod a b = both_int a b
sort_two o a b = None

abbrev pub sort_three : StandardOp → Ty → Ty → Ty → Option Ty
sort_three Ite T.Bool b c = alike b c
sort_three o a b c = None

abbrev pub sort : StandardOp → Ty → Option Ty → Option Ty → Option Ty
sort o a None None = sort_one o a
sort o a (Some b) None = sort_two o a b
sort o a (Some b) (Some c) = sort_three o a b c
sort o a None (Some c) = None

-- ---- the operators that read a further operand only if it is needed

abbrev pub strict : StandardOp → Bool
strict And = false
strict Or = false
strict Implies = false
strict Ite = false
strict o = true

-- false settles `and`, else it is its second operand
abbrev pub after_and : Value → Next
after_and (Truth false) = Done (Truth false)
after_and (Truth _) = Second
after_and (Number _) = Second

-- true settles `or`
abbrev pub after_or : Value → Next
after_or (Truth true) = Done (Truth true)
after_or (Truth _) = Second
after_or (Number _) = Second

-- false settles an implication
abbrev pub after_implies : Value → Next
after_implies (Truth false) = Done (Truth true)
after_implies (Truth _) = Second
after_implies (Number _) = Second

-- true chooses the first branch
abbrev pub after_test : Value → Next
after_test (Truth true) = Second
after_test (Truth _) = Third
after_test (Number _) = Third

abbrev pub first : StandardOp → Value → Next
first And x = after_and x
first Or x = after_or x
first Implies x = after_implies x
first Ite x = after_test x
first o x = All

-- ---- values of the others

abbrev pub ordered : Ordering → Bool
ordered C.Less = true
ordered o = false

abbrev pub is_less : Fraction → Fraction → Bool
is_less x y = ordered (compare x y)

abbrev pub same_truth : Bool → Bool → Bool
same_truth true q = q
same_truth false q = not q

abbrev pub of_one : StandardOp → Value → Option Value
of_one Neg (Number x) = Some (Number (negated x))
of_one Floor (Number x) = Some (Number (whole (floor_of x)))
of_one Ceil (Number x) = Some (Number (whole (ceil_of x)))
of_one Not (Truth p) = Some (Truth (not p))
of_one o x = None

abbrev pub of_numbers : StandardOp → Fraction → Fraction → Option Value
of_numbers Mul x y = Some (Number (times x y))
of_numbers Div x y = if int_eq y.num (pos 0) then None else Some (Number (over x y))
of_numbers Add x y = Some (Number (plus x y))
of_numbers Sub x y = Some (Number (difference x y))
of_numbers Less x y = Some (Truth (is_less x y))
of_numbers AtMost x y = Some (Truth (not (is_less y x)))
of_numbers AtLeast x y = Some (Truth (not (is_less x y)))
of_numbers Greater x y = Some (Truth (is_less y x))
of_numbers Equal x y = Some (Truth (same_number x y))
of_numbers Unequal x y = Some (Truth (not (same_number x y)))
of_numbers Min x y = Some (Number (if is_less y x then y else x))
of_numbers Max x y = Some (Number (if is_less x y then y else x))
of_numbers Mod x y = if is_whole x && is_whole y then option_map Number (remainder x y) else None
of_numbers o x y = None

abbrev pub of_truths : StandardOp → Bool → Bool → Option Value
of_truths Equal p q = Some (Truth (same_truth p q))
of_truths Unequal p q = Some (Truth (not (same_truth p q)))
of_truths Iff p q = Some (Truth (same_truth p q))
of_truths o p q = None

abbrev pub of_two : StandardOp → Value → Value → Option Value
of_two o (Number x) (Number y) = of_numbers o x y
of_two o (Truth p) (Truth q) = of_truths o p q
of_two o (Truth _) (Number _) = None
of_two o (Number _) (Truth _) = None

abbrev pub value : StandardOp → Value → Option Value → Option Value
value o x None = of_one o x
value o x (Some y) = of_two o x y

abbrev pub standard_meaning : Meaning StandardOp
standard_meaning = record { arity = arity; sort = sort; strict = strict; first = first; value = value }

-- ---- what the arithmetic of the code gives

abbrev pub answer_of : Result Fraction FracFail → Result Value EvalFail
answer_of (Ok x) = Ok (Number x)
answer_of (Err F.Wide) = Err E.Wide
answer_of (Err F.ZeroDivisor) = Err E.Undef
