-- Properties that belong to a model: names are bytes, and a reward structure is its number.
use Rattle.std.specs.Prelude.{◌≡◌, ℕ, List, [], ◌∷◌, ◌++◌, Option, Some, None}
use Rattle.op_trees.specs.Tree.{Tree}
use Rattle.prism_tree.specs.declared.operator.PrismOp.{PrismOp}
use Rattle.jani_table.specs.declared.operator.JaniOp.{JaniOp}
use Rattle.prop_grammar.specs.Property.{Ask, greatest, least, bounded, greatest_reward, least_reward, Path, finally, globally, until, weak_until, finally_within, until_within, Property}

abbrev pub Name : Type 0
Name = List ℕ

abbrev pub Of : Type 0 → Type 0
Of O = Property Name (Tree O) ℕ

abbrev pub PrismProperty : Type 0
PrismProperty = Of PrismOp

abbrev pub JaniProperty : Type 0
JaniProperty = Of JaniOp

-- ---- the expressions of a property

-- what an expression stands for in a property
pub data Role : Type 0 where
  state : Role
  steps : Role
  probability : Role

abbrev pub path_parts : {E : Type 0} → Path E → List (Role × E)
path_parts (finally e) = (state, e) ∷ []
path_parts (globally e) = (state, e) ∷ []
path_parts (until a b) = (state, a) ∷ (state, b) ∷ []
path_parts (weak_until a b) = (state, a) ∷ (state, b) ∷ []
path_parts (finally_within k e) = (steps, k) ∷ (state, e) ∷ []
path_parts (until_within k a b) = (steps, k) ∷ (state, a) ∷ (state, b) ∷ []

module _ {E R : Type 0} where
  abbrev pub ask_parts : Ask E R → List (Role × E)
  ask_parts (bounded c e) = (probability, e) ∷ []
  ask_parts greatest = []
  ask_parts least = []
  ask_parts (greatest_reward r) = []
  ask_parts (least_reward r) = []

  -- the reward structure of a query of rewards
  abbrev pub structure_of : Ask E R → Option R
  structure_of (greatest_reward r) = Some r
  structure_of (least_reward r) = Some r
  structure_of greatest = None
  structure_of least = None
  structure_of (bounded c e) = None

-- all its bounds and state formulas
abbrev pub parts : {N E R : Type 0} → Property N E R → List (Role × E)
parts p = ask_parts p.ask ++ path_parts p.path

-- ---- another property part by part

abbrev pub ask_with : {E F R S : Type 0} → (E → F) → (R → S) → Ask E R → Ask F S
ask_with f g greatest = greatest
ask_with f g least = least
ask_with f g (bounded c e) = bounded c (f e)
ask_with f g (greatest_reward r) = greatest_reward (g r)
ask_with f g (least_reward r) = least_reward (g r)

abbrev pub path_with : {E F : Type 0} → (E → F) → Path E → Path F
path_with f (finally e) = finally (f e)
path_with f (globally e) = globally (f e)
path_with f (until a b) = until (f a) (f b)
path_with f (weak_until a b) = weak_until (f a) (f b)
path_with f (finally_within k e) = finally_within (f k) (f e)
path_with f (until_within k a b) = until_within (f k) (f a) (f b)

-- ---- the same property part by part, where expressions are the same by a relation

module _ {E F : Type 0} (Same : E → F → Type 0) where
  abbrev pub SameAsk : {R : Type 0} → Ask E R → Ask F R → Type 0
  SameAsk greatest greatest = Unit {0}
  SameAsk least least = Unit {0}
  SameAsk (bounded c e) (bounded d f) = (c ≡ d) × Same e f
  SameAsk (greatest_reward r) (greatest_reward s) = r ≡ s
  SameAsk (least_reward r) (least_reward s) = r ≡ s
  SameAsk greatest b = ⊥
  SameAsk least b = ⊥
  SameAsk (bounded _ _) b = ⊥
  SameAsk (greatest_reward _) b = ⊥
  SameAsk (least_reward _) b = ⊥

  abbrev pub SamePath : Path E → Path F → Type 0
  SamePath (finally e) (finally f) = Same e f
  SamePath (globally e) (globally f) = Same e f
  SamePath (until a b) (until c d) = Same a c × Same b d
  SamePath (weak_until a b) (weak_until c d) = Same a c × Same b d
  SamePath (finally_within k e) (finally_within m f) = Same k m × Same e f
  SamePath (until_within k a b) (until_within m c d) = Same k m × Same a c × Same b d
  SamePath (finally _) q = ⊥
  SamePath (globally _) q = ⊥
  SamePath (until _ _) q = ⊥
  SamePath (weak_until _ _) q = ⊥
  SamePath (finally_within _ _) q = ⊥
  SamePath (until_within _ _ _) q = ⊥
