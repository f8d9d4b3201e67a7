-- Lists of which each member has something, or nothing; and first members.
use Rattle.std.specs.Prelude.{◌≡◌, ℕ, zero, suc, ◌+◌, ◌<◌, List, [], ◌∷◌, ◌++◌, map, length, Bool, true, false, not, ◌||◌, cond, Some, None, nat_lt, slice_get}
use Rattle.std.specs.List.{find, list_any, position, position_or_len, AllByRecursion as OfAll}
use Rattle.std.specs.Option.{option_map}
use Rattle.std.proofs.Common.{refl, ap, ap₂, subst, ◌∙◌, arith}
use Rattle.std.proofs.lemmas.Bool.{lt-ltb, le-ltb, ltb-true, ltb-false}
use Rattle.std.proofs.lemmas.Option.{same_Some}
use Rattle.std.proofs.lemmas.List.Folds.{list_any-append}
use Rattle.basics.specs.Each.{each_join}
use Rattle.process_core.specs.Instance.{numbered}

-- ---- each member
pub of_front : {A : Type 0} (P : A → Type 0) (xs ys : List A) → OfAll P (xs ++ ys) → OfAll P xs
of_front P [] ys p = tt
of_front P (x ∷ xs) ys p = (p.0, of_front P xs ys p.1)

-- one that is found is a member
pub of_found : {A : Type 0} (P : A → Type 0) (test : A → Bool) (xs : List A) (x : A) → OfAll P xs → find test xs ≡ Some x → P x
of_found P test [] x p e = absurd cc
of_found P test (y ∷ ys) x p e = by_test (test y) e (λ k. of_found P test ys x p.1 k)
  where
    by_test : (b : Bool) → cond b (Some y) (find test ys) ≡ Some x → (find test ys ≡ Some x → P x) → P x
    by_test true k ih = subst P (same_Some y x k) p.0
    by_test false k ih = ih k

pub of_at : {A : Type 0} (P : A → Type 0) (xs : List A) (i : ℕ) (x : A) → OfAll P xs → slice_get xs i ≡ Some x → P x
of_at P [] i x p e = absurd cc
of_at P (y ∷ ys) zero x p e = subst P (same_Some y x e) p.0
of_at P (y ∷ ys) (suc i) x p e = of_at P ys i x p.1 e

pub to_map : {A B : Type 0} (P : B → Type 0) (f : A → B) (xs : List A) → OfAll (λ x. P (f x)) xs → OfAll P (map f xs)
to_map P f [] p = tt
to_map P f (x ∷ xs) p = (p.0, to_map P f xs p.1)

-- members that are numbered
pub of_numbered : {A B C : Type 0} (P : B → Type 0) (Q : C → Type 0) (f : ℕ → A → B) (g : ℕ → A → List C) → ((i : ℕ) (x : A) → P (f i x) → OfAll Q (g i x)) →
    (k : ℕ) (xs : List A) → OfAll P (numbered (λ i x. f i x ∷ []) k xs) → OfAll Q (numbered g k xs)
of_numbered P Q f g h k [] p = tt
of_numbered P Q f g h k (x ∷ xs) p = each_join Q (g k x) (numbered g (k + 1) xs) (h k x p.0) (of_numbered P Q f g h (k + 1) xs p.1)

pub to_numbered : {A B : Type 0} (P : A → Type 0) (Q : B → Type 0) (f : ℕ → A → B) → ((i : ℕ) (x : A) → P x → Q (f i x)) → (k : ℕ) (xs : List A) → OfAll P xs → OfAll Q (numbered (λ i x. f i x ∷ []) k xs)
to_numbered P Q f h k [] p = tt
to_numbered P Q f h k (x ∷ xs) p = (h k x p.0, to_numbered P Q f h (k + 1) xs p.1)

-- ---- nothing

-- ---- tests
-- a test of the members of a numbered list
pub any-numbered : {A B : Type 0} (q : B → Bool) (f : ℕ → A → List B) (p : A → Bool) → ((i : ℕ) (x : A) → list_any q (f i x) ≡ p x) → (k : ℕ) (xs : List A) → list_any q (numbered f k xs) ≡ list_any p xs
any-numbered q f p h k [] = refl
any-numbered q f p h k (x ∷ xs) = list_any-append q (f k x) (numbered f (k + 1) xs) ∙ ap₂ (λ a b. a || b) (h k x) (any-numbered q f p h (k + 1) xs)

-- ---- first members

-- a place is where the first member that passes stands
pub place_zero : {A : Type 0} (p : A → Bool) (x : A) (xs : List A) → p x ≡ true → position p (x ∷ xs) ≡ Some 0
place_zero p x xs h = at_first (position_or_len p xs) (p x) h
  where
    at_first : (i : ℕ) (b : Bool) → b ≡ true → cond (nat_lt (cond (not b) (1 + i) 0) (suc (length xs))) (Some (cond (not b) (1 + i) 0)) None ≡ Some 0
    at_first i true h = ap (λ b. let none : ℕ = 0 in cond b (Some none) None) (lt-ltb 0 (suc (length xs)) (omega arith))
    at_first i false h = absurd cc

pub place_next : {A : Type 0} (p : A → Bool) (x : A) (xs : List A) → p x ≡ false → position p (x ∷ xs) ≡ option_map suc (position p xs)
place_next p x xs h =
    ap (λ b. cond (nat_lt (cond {A = ℕ} (not b) (1 + position_or_len p xs) 0) (suc (length xs))) (Some (cond {A = ℕ} (not b) (1 + position_or_len p xs) 0)) None) h
    ∙ shifted (position_or_len p xs) (length xs) (nat_lt (position_or_len p xs) (length xs)) refl
  where
    shifted : (i n : ℕ) (b : Bool) → nat_lt i n ≡ b → cond (nat_lt (1 + i) (suc n)) (Some (1 + i)) None ≡ option_map suc (cond b (Some i) None)
    shifted i n true e =
        let low : i < n = ltb-true i n e in
        let on : 1 + i ≡ suc i = omega arith in
        ap (λ b. cond b (Some (1 + i)) None) (lt-ltb (1 + i) (suc n) (omega arith)) ∙ ap Some on
    shifted i n false e =
        let high = ltb-false i n e in
        ap (λ b. cond b (Some (1 + i)) None) (le-ltb (1 + i) (suc n) (omega arith))
