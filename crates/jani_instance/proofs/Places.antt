-- The location of an element in a state: a number of the list of its automaton.
use Rattle.std.specs.Prelude.{◌≡◌, ℕ, zero, suc, ℤ, pos, negsuc, ◌-◌, ◌≤◌, ◌≤ℤ◌, ◌*ℤ◌, List, [], ◌∷◌, ◌++◌, map, length, Bool, true, false, not, Some, nat_eq, slice_get, unwrap_or}
use Rattle.std.specs.Ordering.{int_cmp}
use Rattle.std.specs.declared.cmp.Ordering.{Ordering}
use Rattle.std.specs.declared.cmp.Ordering.TheVariants as C
use Rattle.std.proofs.Common.{refl, sym, ap, subst, ◌∙◌, arith, tests}
use Rattle.std.proofs.lemmas.Int.{ints}
use Rattle.std.proofs.lemmas.Cmp.{int_ranked}
use Rattle.std.proofs.lemmas.Bool.{not-true}
use Rattle.basics.specs.Booleans.{first_true, second_true}
use Rattle.frac_core.specs.Fraction.{whole, is_whole}
use Rattle.frac_core.specs.Rounding.{whole_from_den}
use Rattle.op_trees.specs.declared.tree.Value.{Value}
use Rattle.op_trees.specs.declared.tree.Value.TheVariants as V
use Rattle.process_core.specs.Ready.{Values}
use Rattle.process_core.specs.Equal.{equal_values, equal_values_is}
use Rattle.process_core.specs.Instance.{Between, Column, is_above, is_greater, is_in, is_state}
use Rattle.jani_tree.specs.Syntax.{Automaton}
use Rattle.jani_meaning.specs.Scene.{counted, location_column}
use Rattle.jani_instance.specs.Views.{count_in}

-- a value is a number up to this one
pub record IsUpTo (m : ℕ) (v : Value) : Type 0 where
  pub number : ℕ
  pub is : v ≡ V.Number (whole (pos number))
  pub within : number ≤ m

whole_order : (n m : ℤ) → is_above (whole n) (whole m) ≡ false → n ≤ℤ m
whole_order n m h = by_answer (int_cmp (n *ℤ pos 1) (m *ℤ pos 1)) refl h
  where
    by_answer : (r : Ordering) → r ≡ int_cmp (n *ℤ pos 1) (m *ℤ pos 1) → is_greater r ≡ false → n ≤ℤ m
    by_answer C.Less e k = let below = int_ranked (n *ℤ pos 1) (m *ℤ pos 1) C.Less e in omega (arith, ints, below)
    by_answer C.Equal e k = let same = int_ranked (n *ℤ pos 1) (m *ℤ pos 1) C.Equal e in omega (arith, ints, same)
    by_answer C.Greater e k = absurd cc

up_to : (m : ℕ) (z : ℤ) → is_above (whole (pos 0)) (whole z) ≡ false → is_above (whole z) (whole (pos m)) ≡ false → IsUpTo m (V.Number (whole z))
up_to m (pos n) l u = record { number = n; is = refl; within = let h = whole_order (pos n) (pos m) u in omega (arith, ints, h) }
up_to m (negsuc n) l u = absurd (let h = whole_order (pos 0) (negsuc n) l in omega (arith, ints, h))

location_value : (m : ℕ) (v : Value) → is_in (Between (counted 0) (counted m)) v ≡ true → IsUpTo m v
location_value m (V.Truth b) h = absurd cc
location_value m (V.Number q) h =
    let same : q ≡ whole q.num = whole_from_den q (first_true (is_whole q) _ h) in
    let low = not-true (is_above (whole (pos 0)) q) (first_true (not (is_above (whole (pos 0)) q)) _ (second_true (is_whole q) _ h)) in
    let high = not-true (is_above q (whole (pos m))) (second_true (not (is_above (whole (pos 0)) q)) _ (second_true (is_whole q) _ h)) in
    subst (λ r. IsUpTo m (V.Number r)) (sym same)
    (up_to m q.num (subst (λ r. is_above (whole (pos 0)) r ≡ false) same low) (subst (λ r. is_above r (whole (pos m)) ≡ false) same high))

-- an element is in a location of its automaton
pub record IsAt (s : Values) (i : ℕ) (a : Automaton) : Type 0 where
  pub number : ℕ
  pub is : slice_get s i ≡ Some (V.Number (whole (pos number)))
  pub within : number ≤ length a.locations - 1

pub at_place : (as_ : List Automaton) (rest : List Column) (s : Values) (i : ℕ) (a : Automaton) → slice_get as_ i ≡ Some a →
    is_state (map location_column as_ ++ rest) s ≡ true → IsAt s i a
at_place [] rest s i a e h = absurd cc
at_place (b ∷ bs) rest [] i a e h = absurd cc
at_place (b ∷ bs) rest (v ∷ s) zero a e h =
    let here = location_value (length b.locations - 1) v (first_true (is_in (location_column b).domain v) _ h) in
    let same : b ≡ a = ap (λ o. unwrap_or o b) e in
    record { number = here.number; is = ap Some here.is; within = subst (λ c. here.number ≤ length c.locations - 1) same here.within }
at_place (b ∷ bs) rest (v ∷ s) (suc i) a e h =
    let there = at_place bs rest s i a e (second_true (is_in (location_column b).domain v) _ h) in
    record { number = there.number; is = there.is; within = there.within }

-- two numbers are the same as values
pub same_count : (k n : ℕ) → equal_values (V.Number (whole (pos n))) (V.Number (whole (pos k))) ≡ nat_eq k n
same_count k n = by_tests (nat_eq k n) refl (equal_values (V.Number (whole (pos n))) (V.Number (whole (pos k)))) refl
  where
    by_tests : (b : Bool) → nat_eq k n ≡ b → (c : Bool) → equal_values (V.Number (whole (pos n))) (V.Number (whole (pos k))) ≡ c → c ≡ b
    by_tests true e c f =
        let same : n ≡ k = grind (arith, tests, e) in
        sym f ∙ (equal_values_is (V.Number (whole (pos n))) (V.Number (whole (pos k)))).1 (ap (λ z. V.Number (whole (pos z))) same)
    by_tests false e true f =
        let same : n ≡ k = ap (λ v. count_in (Some v)) ((equal_values_is (V.Number (whole (pos n))) (V.Number (whole (pos k)))).0 f) in
        absurd (grind (arith, tests, e, same))
    by_tests false e false f = refl
