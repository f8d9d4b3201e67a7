-- The least of faults, part by part.
use Rattle.std.specs.Prelude.{ℕ, ◌≤◌, List, [], ◌∷◌, ◌++◌, Bool, true, false, Option, Some, None, nat_lt, min, if◌then◌else◌, ◌⊎◌}
use Rattle.std.proofs.Common.{◌≡◌, refl, sym, ap, subst, ◌∙◌, inl, inr, arith}
use Rattle.std.proofs.lemmas.Bool.Decides.{nat_tests}
use Rattle.bridge_io.specs.declared.reason.Reason.{Reason}
use Rattle.bridge_io.specs.declared.reason.Fault.{Fault}
use Rattle.name_rules.specs.Least.{fault, is_before, sooner, soonest, IsAmong, AtMost, IsLeast}

pub soonest_append : (best : Option Fault) (xs ys : List Fault) → soonest best (xs ++ ys) ≡ soonest (soonest best xs) ys
soonest_append best [] ys = refl
soonest_append best (x ∷ xs) ys = soonest_append (sooner best x) xs ys

at_most_refl : (f : Fault) → AtMost f f
at_most_refl f = inr (refl, omega arith)

at_most_trans : (f g h : Fault) → AtMost f g → AtMost g h → AtMost f h
at_most_trans f g h a b = grind arith

before_at_most : (f g : Fault) → is_before f g ≡ true → AtMost f g
before_at_most f g e = grind (arith, nat_tests)

not_before_at_most : (f g : Fault) → is_before f g ≡ false → AtMost g f
not_before_at_most f g e = grind (arith, nat_tests)

-- the one of two that is taken is one of them, and at most both
taken : (b : Bool) (f g : Fault) → is_before f g ≡ b → (h : Fault) × ((if b then Some f else Some g) ≡ Some h) × ((h ≡ f) ⊎ (h ≡ g)) × AtMost h f × AtMost h g
taken true f g e = (f, refl, inl refl, at_most_refl f, before_at_most f g e)
taken false f g e = (g, refl, inr refl, not_before_at_most f g e, at_most_refl g)

-- from a fault on, the soonest is that fault or in the list, and at most all of these
pub record Found (best : Fault) (fs : List Fault) (f : Fault) : Type 0 where
  pub is : soonest (Some best) fs ≡ Some f
  pub one : (f ≡ best) ⊎ IsAmong f fs
  pub first : AtMost f best
  pub least : (g : Fault) → IsAmong g fs → AtMost f g

pub found : (best : Fault) (fs : List Fault) → (f : Fault) × Found best fs f
found best [] = (best, record { is = refl; one = inl refl; first = at_most_refl best; least = λ g i. absurd i })
found best (x ∷ xs) =
    let t = taken (is_before x best) x best refl in
    let r = found t.0 xs in (
      r.0,
      record {
        is = ap (λ o. soonest o xs) t.1 ∙ r.1.is;
        one = elim r.1.one [ inl e ↦ (elim t.2 [ inl d ↦ inr (inl (e ∙ d)) | inr d ↦ inl (e ∙ d) ]) | inr i ↦ inr (inr i) ];
        first = at_most_trans _ _ _ r.1.first t.4;
        least = λ g i. elim i [ inl e ↦ subst (λ y. AtMost r.0 y) (sym e) (at_most_trans _ _ _ r.1.first t.3) | inr j ↦ r.1.least g j ];
      },
    )

pub soonest_some : (fs : List Fault) (f : Fault) → soonest None fs ≡ Some f → IsLeast fs f
soonest_some [] f e = absurd (cc)
soonest_some (x ∷ xs) f e =
    let r = found x xs in
    let same : r.0 ≡ f = (cc (r.1.is, e)) in
    subst (λ h. IsLeast (x ∷ xs) h) same (record { among = r.1.one; least = λ g i. elim i [ inl d ↦ subst (λ y. AtMost r.0 y) (sym d) r.1.first | inr j ↦ r.1.least g j ] })

pub soonest_none : (fs : List Fault) → soonest None fs ≡ None → fs ≡ []
soonest_none [] e = refl
soonest_none (x ∷ xs) e = let r = found x xs in absurd (cc (r.1.is, e))

-- ---- of two faults of one reason the lesser is that at the lower offset

pick : (x y : ℕ) (r : Reason) (b : Bool) → is_before (fault y r) (fault x r) ≡ b → (if b then Some (fault y r) else Some (fault x r)) ≡ Some (fault (min y x) r)
pick x y r true e = let h : y ≡ min y x = grind (arith, nat_tests) in ap (λ n. Some (fault n r)) h
pick x y r false e = let h : x ≡ min y x = grind (arith, nat_tests) in ap (λ n. Some (fault n r)) h

stays_before : (x y : ℕ) (r : Reason) (g : Fault) → x ≤ y → is_before (fault y r) g ≡ true → is_before (fault x r) g ≡ true
stays_before x y r g h e = grind (arith, nat_tests)

stays_after : (x y : ℕ) (r : Reason) (g : Fault) → x ≤ y → is_before (fault x r) g ≡ false → is_before (fault y r) g ≡ false
stays_after x y r g h e = grind (arith, nat_tests)

-- the test of the lesser of two, from the tests of both
test_of_both : (x y : ℕ) (r : Reason) (g : Fault) (b : Bool) → is_before (fault x r) g ≡ b →
    sooner (if b then Some (fault x r) else Some g) (fault y r) ≡ sooner (Some g) (fault (min y x) r)
test_of_both x y r g true e =
    pick x y r (is_before (fault y r) (fault x r)) refl
    ∙ ap (λ b. if b then Some (fault (min y x) r) else Some g) (sym (stays_before (min y x) x r g (omega arith) e))
test_of_both x y r g false e = by_order (nat_lt y x) refl
  where
    by_order : (b : Bool) → nat_lt y x ≡ b → sooner (Some g) (fault y r) ≡ sooner (Some g) (fault (min y x) r)
    by_order true h = let same : y ≡ min y x = grind (arith, nat_tests) in ap (λ n. sooner (Some g) (fault n r)) same
    by_order false h =
        let same : x ≡ min y x = grind (arith, nat_tests) in
        let above : x ≤ y = grind (arith, nat_tests) in
        ap (λ b. if b then Some (fault y r) else Some g) (stays_after x y r g above e)
        ∙ ap (λ b. if b then Some (fault x r) else Some g) (sym e)
        ∙ ap (λ n. sooner (Some g) (fault n r)) same

pub sooner_twice : (best : Option Fault) (x y : ℕ) (r : Reason) → sooner (sooner best (fault x r)) (fault y r) ≡ sooner best (fault (min y x) r)
sooner_twice None x y r = pick x y r (is_before (fault y r) (fault x r)) refl
sooner_twice (Some g) x y r = test_of_both x y r g (is_before (fault x r) g) refl
