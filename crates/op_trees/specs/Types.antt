-- Types of expressions, the places where one has none, and values of a type. An int may stand where
-- a real is wanted, as in the PRISM manual ("Expressions") and in the jani-model specification
-- ("Types").
use Rattle.std.specs.Prelude.{◌≡◌, ℕ, zero, suc, ◌≤◌, List, [], ◌∷◌, ◌++◌, Bool, true, false, ◌&&◌, Option, Some, None, IsTrue, is_some, nat_eq, All, Contains, if◌then◌else◌, Result, Ok, Err, min}
use Rattle.std.specs.Option.{ok_or}
use Rattle.frac_core.specs.declared.decimal.Decimal.{Decimal}
use Rattle.op_trees.specs.declared.tree.Ty.{Ty}
use Rattle.op_trees.specs.declared.tree.Ty.TheVariants as T
use Rattle.op_trees.specs.declared.tree.Value.{Value}
use Rattle.op_trees.specs.declared.tree.Value.TheVariants as V
use Rattle.op_trees.specs.Tree.{Tree, Truth, Number, Name, One, Two, Three}
use Rattle.op_trees.specs.Meaning.{Meaning}

-- an int fits where a real is wanted
abbrev pub fits : Ty → Ty → Bool
fits T.Bool T.Bool = true
fits T.Int T.Int = true
fits T.Int T.Real = true
fits T.Real T.Real = true
fits T.Bool T.Int = false
fits T.Bool T.Real = false
fits T.Int T.Bool = false
fits T.Real T.Bool = false
fits T.Real T.Int = false

-- a truth value is a bool, a whole number an int and a real, any number a real
abbrev pub has_type : Ty → Value → Bool
has_type T.Bool (V.Truth b) = true
has_type T.Int (V.Number q) = nat_eq q.den 1
has_type T.Real (V.Number q) = true
has_type T.Bool (V.Number _) = false
has_type T.Int (V.Truth _) = false
has_type T.Real (V.Truth _) = false

-- the types of names, None where there is none
abbrev pub Types : Type 0
Types = List ℕ → Option Ty

-- a literal without a point or an exponent is an int
abbrev pub number_type : Decimal → Ty
number_type d = if d.real then T.Real else T.Int

module _ {O : Type 0} (m : Meaning O) where
  -- a node whose operand has no type has none
  abbrev pub sort_one : O → Option Ty → Option Ty
  sort_one o None = None
  sort_one o (Some a) = m.sort o a None None

  abbrev pub sort_two : O → Option Ty → Option Ty → Option Ty
  sort_two o None b = None
  sort_two o (Some a) None = None
  sort_two o (Some a) (Some b) = m.sort o a (Some b) None

  abbrev pub sort_three : O → Option Ty → Option Ty → Option Ty → Option Ty
  sort_three o None b c = None
  sort_three o (Some a) None c = None
  sort_three o (Some a) (Some b) None = None
  sort_three o (Some a) (Some b) (Some c) = m.sort o a (Some b) (Some c)

  -- the type of an expression, None where it has none
  abbrev pub type_in : Types → Tree O → Option Ty
  type_in types (Truth at b) = Some T.Bool
  type_in types (Number at d) = Some (number_type d)
  type_in types (Name at x) = types x
  type_in types (One at o a) = sort_one o (type_in types a)
  type_in types (Two at o a b) = sort_two o (type_in types a) (type_in types b)
  type_in types (Three at o a b c) = sort_three o (type_in types a) (type_in types b) (type_in types c)

-- a value, where there is one, has the type, where there is one
pub record AgreesWith (type : Option Ty) (value : Option Value) : Type 0 where
  pub agrees : (t : Ty) (v : Value) → type ≡ Some t → value ≡ Some v → IsTrue (has_type t v)

module _ {O : Type 0} (m : Meaning O) where
  -- a name that has a body has its body's type, any other its own
  abbrev pub type_through : Option (Tree O) → Types → Option Ty → Option Ty
  type_through None types t = t
  type_through (Some b) types t = type_in m types b

  -- names that have bodies are looked up, to a depth
  abbrev pub types_looked_up : (List ℕ → Option (Tree O)) → ℕ → Types → Types
  types_looked_up bodies zero types x = types x
  types_looked_up bodies (suc n) types x = type_through (bodies x) (types_looked_up bodies n types) (types x)

-- the place of a node, where its operands have types and it has none
abbrev pub misfit_at : ℕ → Bool → Option Ty → List ℕ
misfit_at at true None = at ∷ []
misfit_at at true (Some t) = []
misfit_at at false t = []

module _ {O : Type 0} (m : Meaning O) where
  -- the offsets of the nodes whose operands have types and which have none
  abbrev pub misfits : Types → Tree O → List ℕ
  misfits types (Truth at b) = []
  misfits types (Number at d) = []
  misfits types (Name at x) = misfit_at at true (types x)
  misfits types (One at o a) =
      misfits types a ++ misfit_at at (is_some (type_in m types a)) (type_in m types (One at o a))
  misfits types (Two at o a b) =
      misfits types a ++ (misfits types b
      ++ misfit_at at (is_some (type_in m types a) && is_some (type_in m types b)) (type_in m types (Two at o a b)))
  misfits types (Three at o a b c) =
      misfits types a ++ (misfits types b ++ (misfits types c
      ++ misfit_at at (is_some (type_in m types a) && (is_some (type_in m types b) && is_some (type_in m types c))) (type_in m types (Three at o a b c))))

-- the least of a list: it stands there, and nothing there is less
pub record IsLeast (n : ℕ) (ns : List ℕ) : Type 0 where
  pub stands : Contains ns n
  pub least : All (λ i. n ≤ i) ns

-- ---- the same by one recursion: the type, or the least misfit
-- the lesser of two misfits, or the one that there is
abbrev pub lesser : Result Ty ℕ → Result Ty ℕ → Result Ty ℕ
lesser (Err i) (Err j) = Err (min i j)
lesser (Err i) (Ok t) = Err i
lesser (Ok t) b = b

abbrev pub typed_one : (Ty → Option Ty) → ℕ → Result Ty ℕ → Result Ty ℕ
typed_one sort at (Ok x) = ok_or (sort x) at
typed_one sort at (Err i) = Err i

abbrev pub typed_two : (Ty → Ty → Option Ty) → ℕ → Result Ty ℕ → Result Ty ℕ → Result Ty ℕ
typed_two sort at (Ok x) (Ok y) = ok_or (sort x y) at
typed_two sort at (Ok x) (Err j) = Err j
typed_two sort at (Err i) b = lesser (Err i) b

abbrev pub typed_three : (Ty → Ty → Ty → Option Ty) → ℕ → Result Ty ℕ → Result Ty ℕ → Result Ty ℕ → Result Ty ℕ
typed_three sort at (Ok x) (Ok y) (Ok z) = ok_or (sort x y z) at
typed_three sort at (Ok x) (Ok y) (Err i) = Err i
typed_three sort at (Ok x) (Err i) c = lesser (Err i) c
typed_three sort at (Err i) b c = lesser (Err i) (lesser b c)

abbrev pub typed : {O : Type 0} → Meaning O → Types → Tree O → Result Ty ℕ
typed m types (Truth at b) = Ok T.Bool
typed m types (Number at d) = Ok (number_type d)
typed m types (Name at x) = ok_or (types x) at
typed m types (One at o a) = typed_one (λ x. m.sort o x None None) at (typed m types a)
typed m types (Two at o a b) = typed_two (λ x y. m.sort o x (Some y) None) at (typed m types a) (typed m types b)
typed m types (Three at o a b c) =
    typed_three (λ x y z. m.sort o x (Some y) (Some z)) at (typed m types a) (typed m types b) (typed m types c)
