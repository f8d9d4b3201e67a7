-- The laws of a set of operators.
use Rattle.std.specs.Prelude.{◌≡◌, ◌↔◌, ℕ, ◌≤◌, Bool, true, false, Option, Some, None, IsTrue}
use Rattle.op_trees.specs.declared.tree.Ty.{Ty}
use Rattle.op_trees.specs.declared.tree.Value.{Value}
use Rattle.op_trees.specs.declared.tree.Next.TheVariants.{Done, Second, Third, All}
use Rattle.op_trees.specs.Meaning.{Meaning}
use Rattle.op_trees.specs.Types.{fits, has_type}

-- how many operands are given, 0 for a third without a second
abbrev pub given_count : Option Ty → Option Ty → ℕ
given_count None None = 1
given_count (Some b) None = 2
given_count (Some b) (Some c) = 3
given_count None (Some c) = 0

-- a second operand, or none, of its type
abbrev pub has_second_type : Option Ty → Option Value → Bool
has_second_type None None = true
has_second_type (Some b) (Some y) = has_type b y
has_second_type b y = false

-- an operand is there, of a type that fits the wanted one
abbrev pub fits_some : Option Ty → Ty → Bool
fits_some None t = false
fits_some (Some b) t = fits b t

module _ {O : Type 0} (m : Meaning O) where
  -- a first operand has a type that the operator takes there, beside these types of the others, for
  -- a node of the type t
  pub record TakesFirst (o : O) (x : Value) (a : Ty) (b c : Option Ty) (t : Ty) : Type 0 where
    pub taken : m.sort o a b c ≡ Some t
    pub typed : IsTrue (has_type a x)

  pub record IsLawful : Type 0 where
    -- one, two or three operands
    pub few : (o : O) → (1 ≤ m.arity o) × (m.arity o ≤ 3)
    -- a type only for as many operands as the arity
    pub counted : (o : O) (a : Ty) (b c : Option Ty) (t : Ty) → m.sort o a b c ≡ Some t → given_count b c ≡ m.arity o
    -- three operands are never all read
    pub three_lazy : (o : O) → m.arity o ≡ 3 → m.strict o ≡ false
    -- all operands are read exactly where the operator is strict
    pub all_strict : (o : O) (x : Value) (a : Ty) (b c : Option Ty) (t : Ty) → TakesFirst o x a b c t →
        (m.first o x ≡ All) ↔ (m.strict o ≡ true)
    -- the operand that is asked for is there, and its type fits
    pub second : (o : O) (x : Value) (a : Ty) (b c : Option Ty) (t : Ty) → TakesFirst o x a b c t →
        m.first o x ≡ Second → IsTrue (fits_some b t)
    pub third : (o : O) (x : Value) (a : Ty) (b c : Option Ty) (t : Ty) → TakesFirst o x a b c t →
        m.first o x ≡ Third → IsTrue (fits_some c t)
    -- a value that the first operand settles has the type
    pub done : (o : O) (x v : Value) (a : Ty) (b c : Option Ty) (t : Ty) → TakesFirst o x a b c t →
        m.first o x ≡ Done v → IsTrue (has_type t v)
    -- a value of a strict operator has the type, unbounded as it is
    pub applied : (o : O) (x v : Value) (y : Option Value) (a : Ty) (b : Option Ty) (t : Ty) → m.strict o
        ≡ true → TakesFirst o x a b None t →
        IsTrue (has_second_type b y) → m.value o x y ≡ Some v → IsTrue (has_type t v)
