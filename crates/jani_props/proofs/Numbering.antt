-- The numbers of reward structures.
use Rattle.std.proofs.Common.{◌≡◌, ℕ, suc, ◌+◌, ◌<◌, ◌≤◌, refl, sym, ap, ap₂, ◌∙◌, List, [], ◌∷◌, map, length, drop, filter, position, get_or, cond, Option, Some, None, Bool, true, false, if◌then◌else◌, arith}
use Rattle.std.specs.Prelude.{bytes_eq}
use Rattle.std.specs.Option.{option_map, option_or}
use Rattle.std.proofs.lemmas.Slice.Eq.{bytes_eq-Decides}
use Rattle.std.proofs.lemmas.List.Quantifiers.{position-Some}
use Rattle.basics.specs.Lists.{drop_item}
use Rattle.basics.specs.Members.{position_cons}
use Rattle.jani_tree.specs.declared.syntax.JaniVar.{JaniVar}
use Rattle.jani_tree.specs.Syntax.{Var, var_of}
use Rattle.jani_check.specs.Things.{is_reward, var_thing}
use Rattle.name_rules.specs.Names.{put_first}
use Rattle.prop_trees.specs.Trees.{Name}
use Rattle.jani_props.specs.Faults.{structures_among, number_among}

abbrev pub is_structure : Var → Bool
is_structure v = is_reward (Some (var_thing v))

pub among_reward : (v : Var) (vs : List Var) → is_structure v ≡ true → structures_among (v ∷ vs) ≡ v.name.name ∷ structures_among vs
among_reward v vs e = ap (λ b. map (λ v. v.name.name) (cond b (v ∷ filter is_structure vs) (filter is_structure vs))) e

pub among_other : (v : Var) (vs : List Var) → is_structure v ≡ false → structures_among (v ∷ vs) ≡ structures_among vs
among_other v vs e = ap (λ b. map (λ v. v.name.name) (cond b (v ∷ filter is_structure vs) (filter is_structure vs))) e

number_reward : (v : Var) (vs : List Var) (x : Name) → is_structure v ≡ true → number_among (v ∷ vs) x ≡ cond (bytes_eq v.name.name x) (Some 0) (option_map suc (number_among vs x))
number_reward v vs x e = ap (position (λ y. bytes_eq y x)) (among_reward v vs e) ∙ position_cons (λ y. bytes_eq y x) v.name.name (structures_among vs)

number_other : (v : Var) (vs : List Var) (x : Name) → is_structure v ≡ false → number_among (v ∷ vs) x ≡ number_among vs x
number_other v vs x e = ap (position (λ y. bytes_eq y x)) (among_other v vs e)

-- ---- as the code counts

abbrev counted : (Name → Option ℕ) → ℕ → List Var → Name → Option ℕ
counted old count vs x = option_or (old x) (option_map (λ i. count + i) (number_among vs x))

from_nought : (o : Option ℕ) → option_map (λ i. 0 + i) o ≡ o
from_nought None = refl
from_nought (Some i) = let e : 0 + i ≡ i = omega arith in ap Some e

pub counted_none : (old : Name → Option ℕ) (vs : List Var) (x : Name) → old x ≡ None → counted old 0 vs x ≡ number_among vs x
counted_none old vs x e = ap (λ o. option_or o (option_map (λ i. 0 + i) (number_among vs x))) e ∙ from_nought (number_among vs x)

next_number : (count : ℕ) (o : Option ℕ) → option_map (λ i. (count + 1) + i) o ≡ option_map (λ i. count + i) (option_map suc o)
next_number count None = refl
next_number count (Some i) = let e : (count + 1) + i ≡ count + suc i = omega arith in ap Some e

counted_by : (a : Option ℕ) (count : ℕ) (b : Bool) (o : Option ℕ) →
    option_or (option_or a (if b then Some count else None)) (option_map (λ i. (count + 1) + i) o) ≡ option_or a (option_map (λ i. count + i) (cond b (Some 0) (option_map suc o)))
counted_by (Some n) count b o = refl
counted_by None count true o = let e : count ≡ count + 0 = omega arith in ap Some e
counted_by None count false o = next_number count o

module _ (vars : List JaniVar) (i : ℕ) (v : JaniVar) (old : Name → Option ℕ) (count : ℕ) (x : Name) (inside : i < length vars) (is : v ≡ get_or vars i v) where
  abbrev left : List JaniVar
  left = drop (i + 1) vars

  split : map var_of (drop i vars) ≡ var_of v ∷ map var_of left
  split = ap (map var_of) (drop_item vars i v inside is)

  pub counted_reward : (new : Name → Option ℕ) → is_structure (var_of v) ≡ true → new x ≡ option_or (old x) (if bytes_eq v.name.name x then Some count else None) →
      counted new (count + 1) (map var_of left) x ≡ counted old count (map var_of (drop i vars)) x
  counted_reward new r put =
      ap (λ o. option_or o (option_map (λ i. (count + 1) + i) (number_among (map var_of left) x))) put
      ∙ counted_by (old x) count (bytes_eq v.name.name x) (number_among (map var_of left) x)
      ∙ ap (λ o. option_or (old x) (option_map (λ i. count + i) o)) (sym (number_reward (var_of v) (map var_of left) x r))
      ∙ ap (λ vs. counted old count vs x) (sym split)

  pub counted_other : is_structure (var_of v) ≡ false → counted old count (map var_of left) x ≡ counted old count (map var_of (drop i vars)) x
  counted_other r =
      ap (λ o. option_or (old x) (option_map (λ i. count + i) o)) (sym (number_other (var_of v) (map var_of left) x r)) ∙ ap (λ vs. counted old count vs x) (sym split)

-- one variable more
module _ (vars : List JaniVar) (i : ℕ) (v : JaniVar) (old new whole : Name → Option ℕ) (count next : ℕ) (inside : i < length vars) (is : v ≡ get_or vars i v)
    (so_far : ((x : Name) → counted old count (map var_of (drop i vars)) x ≡ whole x) × (count ≤ i)) where
  abbrev Next : Type 0
  Next = ((x : Name) → counted new next (map var_of (drop (i + 1) vars)) x ≡ whole x) × (next ≤ i + 1)

  pub next_reward : is_structure (var_of v) ≡ true → new ≡ put_first old v.name.name count → next ≡ count + 1 → Next
  next_reward r put more = (
    λ x.
        ap (λ n. counted new n (map var_of (drop (i + 1) vars)) x) more
        ∙ (counted_reward vars i v old count x inside is new r (ap (λ f. f x) put) ∙ so_far.0 x),
    let low = so_far.1 in omega arith,
  )

  pub next_other : is_structure (var_of v) ≡ false → new ≡ old → next ≡ count → Next
  next_other r same more = (
    λ x.
        ap₂ (λ f n. counted f n (map var_of (drop (i + 1) vars)) x) same more
        ∙ (counted_other vars i v old count x inside is r ∙ so_far.0 x),
    let low = so_far.1 in omega arith,
  )

-- ---- a structure's name and its number

pub named_at : (xs : List Name) (x : Name) (i : ℕ) → position (λ y. bytes_eq y x) xs ≡ Some i → (i < length xs) × (get_or xs i [] ≡ x)
named_at xs x i e = let h = position-Some (λ y. bytes_eq y x) xs i [] e in (h.0, (bytes_eq-Decides (get_or xs i []) x).0 h.1)
