-- What is seen of an expression: its value, and whether a subexpression that the value needs is
-- wide. One recursion has both.
use Rattle.std.specs.Prelude.{◌≡◌, ◌<◌, ℕ, zero, suc, List, Bool, false, ◌||◌, Option, Some, None, if◌then◌else◌}
use Rattle.op_trees.specs.declared.tree.Value.{Value}
use Rattle.op_trees.specs.declared.tree.Value.TheVariants as V
use Rattle.op_trees.specs.declared.tree.Next.{Next}
use Rattle.op_trees.specs.declared.tree.Next.TheVariants.{Done, Second, Third, All}
use Rattle.op_trees.specs.Tree.{Tree, Truth, Number, Name, One, Two, Three, AllNames}
use Rattle.op_trees.specs.Meaning.{Meaning, Environment, number, is_wide_value, of_one, of_both, of_lazy}

pub record Seen : Type 0 where
  pub value : Option Value
  pub wide : Bool

-- a value that is given: nothing but itself can be wide
abbrev pub known : Option Value → Seen
known v = record { value = v; wide = is_wide_value v }

-- names that have values
abbrev pub known_names : Environment → List ℕ → Seen
known_names env x = known (env x)

-- a node with this value, whose needed operands are wide or not
abbrev pub node : Option Value → Bool → Seen
node v wide = record { value = v; wide = is_wide_value v || wide }

-- whether the operand that is asked for is wide
abbrev pub asked_wide : Next → Bool → Bool → Bool
asked_wide (Done v) b c = false
asked_wide Second b c = b
asked_wide Third b c = c
asked_wide All b c = false

module _ {O : Type 0} (m : Meaning O) where
  abbrev pub asked_by_wide : O → Option Value → Bool → Bool → Bool
  asked_by_wide o None b c = false
  asked_by_wide o (Some x) b c = asked_wide (m.first o x) b c

  abbrev pub lazy_node : O → Seen → Seen → Seen → Seen
  lazy_node o a b c = node (of_lazy m o a.value b.value c.value) (a.wide || asked_by_wide o a.value b.wide c.wide)

  abbrev pub one_node : O → Seen → Seen
  one_node o a = if m.strict o then node (of_one m o a.value) a.wide else lazy_node o a (known None) (known None)

  abbrev pub two_node : O → Seen → Seen → Seen
  two_node o a b =
      if m.strict o then node (of_both m o a.value b.value) (a.wide || b.wide) else lazy_node o a b (known None)

  -- what is seen of an expression, where names are seen by env
  abbrev pub seen : Tree O → (List ℕ → Seen) → Seen
  seen (Truth at b) env = known (Some (V.Truth b))
  seen (Number at d) env = known (Some (number d))
  seen (Name at x) env = env x
  seen (One at o a) env = one_node o (seen a env)
  seen (Two at o a b) env = two_node o (seen a env) (seen b env)
  seen (Three at o a b c) env = lazy_node o (seen a env) (seen b env) (seen c env)

  -- a name that has a body is seen as its body, any other as it is
  abbrev pub seen_through : Option (Tree O) → (List ℕ → Seen) → Seen → Seen
  seen_through None env s = s
  seen_through (Some b) env s = seen b env

  -- names that have bodies are looked up, to a depth
  abbrev pub looked_up : (List ℕ → Option (Tree O)) → ℕ → (List ℕ → Seen) → List ℕ → Seen
  looked_up bodies zero env x = env x
  looked_up bodies (suc n) env x = seen_through (bodies x) (looked_up bodies n env) (env x)

  -- a replaced name is seen as its body
  abbrev pub IsSeenAsBody : (List ℕ → Option (Tree O)) → (List ℕ → Seen) → List ℕ → Type 0
  IsSeenAsBody bodies env x = (b : Tree O) → bodies x ≡ Some b → seen b env ≡ env x

  -- wherever each replaced name of the old tree is seen as its body, the new tree is seen as the
  -- old one
  abbrev pub SeesBodies : (List ℕ → Option (Tree O)) → Tree O → Tree O → Type 0
  SeesBodies bodies old new =
      (env : List ℕ → Seen) → AllNames (IsSeenAsBody bodies env) old → seen new env ≡ seen old env

-- ---- bodies that lead round in no circle: a rank falls from a name to the names in its body
pub record FallsTo {O : Type 0} (bodies : List ℕ → Option (Tree O)) (rank : List ℕ →
    ℕ) (n : ℕ) (x : List ℕ) : Type 0 where
  pub below : (b : Tree O) → bodies x ≡ Some b → rank x < n

pub record IsFalling {O : Type 0} (bodies : List ℕ → Option (Tree O)) (rank : List ℕ → ℕ) : Type 0 where
  pub falls : (x : List ℕ) (b : Tree O) → bodies x ≡ Some b → AllNames (FallsTo bodies rank (rank x)) b
