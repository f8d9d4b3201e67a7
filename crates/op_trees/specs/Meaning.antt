-- What an expression denotes, over what its operators mean: its value, the subexpressions that the
-- value needs, and the answer. This is plain evaluation over unbounded fractions with values that
-- may be undefined; which operators are strict, and what each means, is the language's to say.
use Rattle.std.specs.Prelude.{ℕ, List, [], ◌∷◌, ◌++◌, Bool, false, Option, Some, None, Result, Ok, Err, if◌then◌else◌}
use Rattle.std.specs.List.{list_any}
use Rattle.frac_core.specs.Fraction.{is_wide}
use Rattle.frac_core.specs.declared.decimal.Decimal.{Decimal}
use Rattle.frac_core.specs.Decimal.{decimal_value}
use Rattle.op_trees.specs.declared.tree.Ty.{Ty}
use Rattle.op_trees.specs.declared.tree.Value.{Value}
use Rattle.op_trees.specs.declared.tree.Value.TheVariants as V
use Rattle.op_trees.specs.declared.tree.Next.{Next}
use Rattle.op_trees.specs.declared.tree.Next.TheVariants.{Done, Second, Third, All}
use Rattle.op_trees.specs.declared.tree.EvalFail.{EvalFail}
use Rattle.op_trees.specs.declared.tree.EvalFail.TheVariants.{Undef, Wide}
use Rattle.op_trees.specs.Tree.{Tree, Truth, Number, Name, One, Two, Three}

-- What the operators of a set mean, over unbounded values: how many operands, the type for operands
-- of given types, whether all operands are read, what a lazy one does after its first operand, and
-- the value of a strict one (None is undefined).
pub record Meaning (O : Type 0) : Type 0 where
  pub arity : O → ℕ
  pub sort : O → Ty → Option Ty → Option Ty → Option Ty
  pub strict : O → Bool
  pub first : O → Value → Next
  pub value : O → Value → Option Value → Option Value

-- operators that are read as others mean what those do
abbrev pub along : {P O : Type 0} → (P → O) → Meaning O → Meaning P
along meant m = record {
  arity = λ o. m.arity (meant o);
  sort = λ o. m.sort (meant o);
  strict = λ o. m.strict (meant o);
  first = λ o. m.first (meant o);
  value = λ o. m.value (meant o);
}

-- the values of names, None where there is none
abbrev pub Environment : Type 0
Environment = List ℕ → Option Value

-- the value of a literal
abbrev pub number : Decimal → Value
number d = V.Number (decimal_value d)

-- the value that a first operand settles, or that of the operand that it asks for; a lazy operator
-- asks for all over no first operand that fits
abbrev pub chosen : Next → Option Value → Option Value → Option Value
chosen (Done v) b c = Some v
chosen Second b c = b
chosen Third b c = c
chosen All b c = None

-- the needed subexpressions of the operand that is asked for
abbrev pub asked : {X : Type 0} → Next → List X → List X → List X
asked (Done v) b c = []
asked Second b c = b
asked Third b c = c
asked All b c = []

module _ {O : Type 0} (m : Meaning O) where
  -- ---- one node's value, from its operands' values
  abbrev pub of_one : O → Option Value → Option Value
  of_one o None = None
  of_one o (Some x) = m.value o x None

  abbrev pub of_both : O → Option Value → Option Value → Option Value
  of_both o None b = None
  of_both o (Some x) None = None
  of_both o (Some x) (Some y) = m.value o x (Some y)

  abbrev pub of_lazy : O → Option Value → Option Value → Option Value → Option Value
  of_lazy o None b c = None
  of_lazy o (Some x) b c = chosen (m.first o x) b c

  -- the value of an expression, None where it is undefined: a name without a value, a node with an
  -- undefined operand that it needs; an operator with three operands is lazy
  abbrev pub value_of : Tree O → Environment → Option Value
  value_of (Truth at b) env = Some (V.Truth b)
  value_of (Number at d) env = Some (number d)
  value_of (Name at x) env = env x
  value_of (One at o a) env = if m.strict o then of_one o (value_of a env) else of_lazy o (value_of a env) None None
  value_of (Two at o a b) env =
      if m.strict o then of_both o (value_of a env) (value_of b env) else of_lazy o (value_of a env) (value_of b env) None
  value_of (Three at o a b c) env = of_lazy o (value_of a env) (value_of b env) (value_of c env)

  -- an undefined first operand asks for no other
  abbrev pub asked_by : {X : Type 0} → O → Option Value → List X → List X → List X
  asked_by o None b c = []
  asked_by o (Some x) b c = asked (m.first o x) b c

  -- the subexpressions that the value needs: all operands of a needed strict node; of a needed lazy
  -- node the first, and the one that the first one's value asks for
  abbrev pub needed : Tree O → Environment → List (Tree O)
  needed (Truth at b) env = Truth at b ∷ []
  needed (Number at d) env = Number at d ∷ []
  needed (Name at x) env = Name at x ∷ []
  needed (One at o a) env = One at o a ∷ needed a env
  needed (Two at o a b) env =
      Two at o a b ∷ (needed a env ++ (if m.strict o then needed b env else asked_by o (value_of a env) (needed b env) []))
  needed (Three at o a b c) env =
      Three at o a b c ∷ (needed a env ++ asked_by o (value_of a env) (needed b env) (needed c env))

-- a part is at least 2^62 in size
abbrev pub is_wide_value : Option Value → Bool
is_wide_value (Some (V.Truth b)) = false
is_wide_value (Some (V.Number q)) = is_wide q
is_wide_value None = false

-- some needed subexpression is wide
abbrev pub needs_wide : {O : Type 0} → Meaning O → Tree O → Environment → Bool
needs_wide m t env = list_any (λ s. is_wide_value (value_of m s env)) (needed m t env)

-- Wide where something is wide, else Undef where there is no value, else the value
abbrev pub settled : Option Value → Result Value EvalFail
settled (Some v) = Ok v
settled None = Err Undef

abbrev pub answered : Bool → Option Value → Result Value EvalFail
answered wide v = if wide then Err Wide else settled v

-- what the evaluation of an expression answers
abbrev pub answer : {O : Type 0} → Meaning O → Tree O → Environment → Result Value EvalFail
answer m t env = answered (needs_wide m t env) (value_of m t env)

-- ---- one node's answer, from the answers for its operands
abbrev pub narrowed : Option Value → Result Value EvalFail
narrowed v = answered (is_wide_value v) v

abbrev pub one_answer : {O : Type 0} → Meaning O → O → Result Value EvalFail → Result Value EvalFail
one_answer m o (Ok x) = narrowed (m.value o x None)
one_answer m o (Err f) = Err f

-- Wide of either operand comes before Undef of either
abbrev pub both_answer : {O : Type 0} → Meaning O → O → Result Value EvalFail → Result Value EvalFail →
    Result Value EvalFail
both_answer m o (Ok x) (Ok y) = narrowed (m.value o x (Some y))
both_answer m o (Ok x) (Err f) = Err f
both_answer m o (Err Wide) b = Err Wide
both_answer m o (Err Undef) (Ok y) = Err Undef
both_answer m o (Err Undef) (Err f) = Err f
