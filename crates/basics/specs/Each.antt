-- A fact of each member of a list, as a walk over it: `AllByRecursion` of std, which computes. `List.Elements` of std's lemmas
-- goes between it and `All`.
use Rattle.std.proofs.Common.{◌≡◌, ℕ, zero, suc, Bool, true, false, ◌||◌, List, [], ◌∷◌, ◌++◌, map, take, drop, zip, filter, flat_map, slice_get, find, option_map, cond, Option, Some, None, if◌then◌else◌, refl, ap₂, subst}
use Rattle.std.specs.List.{list_any, AllByRecursion as Each}
use Rattle.std.proofs.lemmas.Bool.{or_parts}
use Rattle.basics.specs.Lists.{append_parts, append_both}
use Rattle.basics.specs.Options.{IfAny}

pub each_then : {A : Type 0} (P Q : A → Type 0) → ((x : A) → P x → Q x) → (xs : List A) → Each P xs → Each Q xs
each_then P Q h [] p = tt
each_then P Q h (x ∷ xs) p = (h x p.0, each_then P Q h xs p.1)

pub each_with : {A : Type 0} (P Q R : A → Type 0) → ((x : A) → P x → Q x → R x) → (xs : List A) → Each P xs → Each Q xs → Each R xs
each_with P Q R h [] p q = tt
each_with P Q R h (x ∷ xs) p q = (h x p.0 q.0, each_with P Q R h xs p.1 q.1)

pub each_unit : {A : Type 0} (xs : List A) → Each (λ x. Unit {0}) xs
each_unit [] = tt
each_unit (x ∷ xs) = (tt, each_unit xs)

pub each_at : {A : Type 0} (P : A → Type 0) (xs : List A) → ((i : ℕ) (x : A) → slice_get xs i ≡ Some x → P x) → Each P xs
each_at P [] h = tt
each_at P (x ∷ xs) h = (h 0 x refl, each_at P xs (λ i y e. h (suc i) y e))

pub at_each : {A : Type 0} (P : A → Type 0) (xs : List A) (i : ℕ) (x : A) → Each P xs → slice_get xs i ≡ Some x → P x
at_each P [] i x h e = absurd cc
at_each P (y ∷ xs) zero x h e = let q : y ≡ x = cc in subst P q h.0
at_each P (y ∷ xs) (suc i) x h e = at_each P xs i x h.1 e

-- ---- of lists made of others

pub each_map : {A B : Type 0} (P : A → Type 0) (Q : B → Type 0) (f : A → B) → ((x : A) → P x → Q (f x)) → (xs : List A) → Each P xs → Each Q (map f xs)
each_map P Q f h [] p = tt
each_map P Q f h (x ∷ xs) p = (h x p.0, each_map P Q f h xs p.1)

pub each_any : {A B : Type 0} (Q : B → Type 0) (f : A → B) → ((x : A) → Q (f x)) → (xs : List A) → Each Q (map f xs)
each_any Q f h [] = tt
each_any Q f h (x ∷ xs) = (h x, each_any Q f h xs)

pub map_each : {A B : Type 0} (Q : B → Type 0) (f : A → B) (xs : List A) → Each Q (map f xs) → Each (λ x. Q (f x)) xs
map_each Q f [] p = tt
map_each Q f (x ∷ xs) p = (p.0, map_each Q f xs p.1)

pub each_join : {A : Type 0} (P : A → Type 0) (xs ys : List A) → Each P xs → Each P ys → Each P (xs ++ ys)
each_join P [] ys p q = q
each_join P (x ∷ xs) ys p q = (p.0, each_join P xs ys p.1 q)

pub each_parts : {A : Type 0} (P : A → Type 0) (xs ys : List A) → Each P (xs ++ ys) → Each P xs × Each P ys
each_parts P [] ys p = (tt, p)
each_parts P (x ∷ xs) ys p = let r = each_parts P xs ys p.1 in ((p.0, r.0), r.1)

pub each_rest : {A : Type 0} (P : A → Type 0) (xs ys : List A) → Each P (xs ++ ys) → Each P ys
each_rest P xs ys p = (each_parts P xs ys p).1

pub each_flat : {A B : Type 0} (P : A → Type 0) (Q : B → Type 0) (f : A → List B) → ((x : A) → P x → Each Q (f x)) → (xs : List A) → Each P xs → Each Q (flat_map f xs)
each_flat P Q f h [] p = tt
each_flat P Q f h (x ∷ xs) p = each_join Q (f x) (flat_map f xs) (h x p.0) (each_flat P Q f h xs p.1)

pub each_of : {A B : Type 0} (P : B → Type 0) (f : A → List B) (xs : List A) → Each P (flat_map f xs) → Each (λ x. Each P (f x)) xs
each_of P f [] h = tt
each_of P f (x ∷ xs) h = let r = each_parts P (f x) (flat_map f xs) h in (r.0, each_of P f xs r.1)

pub each_take : {A : Type 0} (P : A → Type 0) (n : ℕ) (xs : List A) → Each P xs → Each P (take n xs)
each_take P zero xs h = tt
each_take P (suc n) [] h = tt
each_take P (suc n) (x ∷ xs) h = (h.0, each_take P n xs h.1)

pub each_drop : {A : Type 0} (P : A → Type 0) (n : ℕ) (xs : List A) → Each P xs → Each P (drop n xs)
each_drop P zero xs h = h
each_drop P (suc n) [] h = tt
each_drop P (suc n) (x ∷ xs) h = each_drop P n xs h.1

pub each_zip : {A B : Type 0} (P : A → Type 0) (Q : B → Type 0) (xs : List A) (ys : List B) → Each P xs → Each Q ys → Each (λ p. P p.0 × Q p.1) (zip xs ys)
each_zip P Q [] ys h k = tt
each_zip P Q (x ∷ xs) [] h k = tt
each_zip P Q (x ∷ xs) (y ∷ ys) h k = ((h.0, k.0), each_zip P Q xs ys h.1 k.1)

pub each_filter : {A : Type 0} (P : A → Type 0) (p : A → Bool) (xs : List A) → Each P xs → Each P (filter p xs)
each_filter P p [] h = tt
each_filter {A = A} P p (x ∷ xs) h = by_test (p x) (each_filter P p xs h.1)
  where
    by_test : (b : Bool) → Each P (filter p xs) → Each P (if b then x ∷ filter p xs else filter p xs)
    by_test true r = (h.0, r)
    by_test false r = r

-- ---- lists that are empty, and tests that fail

pub empty_each : {A B : Type 0} (f : A → List B) (xs : List A) → flat_map f xs ≡ [] → Each (λ x. f x ≡ []) xs
empty_each f [] e = tt
empty_each f (x ∷ xs) e = let r = append_parts (f x) (flat_map f xs) e in (r.0, empty_each f xs r.1)

pub each_empty : {A B : Type 0} (f : A → List B) (xs : List A) → Each (λ x. f x ≡ []) xs → flat_map f xs ≡ []
each_empty f [] p = refl
each_empty f (x ∷ xs) p = append_both (f x) (flat_map f xs) p.0 (each_empty f xs p.1)

pub none_each : {A : Type 0} (p : A → Bool) (xs : List A) → list_any p xs ≡ false → Each (λ x. p x ≡ false) xs
none_each p [] e = tt
none_each p (x ∷ xs) e = let r = or_parts (p x) (list_any p xs) e in (r.0, none_each p xs r.1)

pub each_none : {A : Type 0} (p : A → Bool) (xs : List A) → Each (λ x. p x ≡ false) xs → list_any p xs ≡ false
each_none p [] h = refl
each_none p (x ∷ xs) h = ap₂ (λ a b. a || b) h.0 (each_none p xs h.1)

-- ---- of what may be missing

-- what is found in a list, where something is
pub each_found : {A : Type 0} (P : A → Type 0) (test : A → Bool) (xs : List A) → Each P xs → IfAny P (find test xs)
each_found P test [] p = tt
each_found {A = A} P test (x ∷ xs) p = by_test (test x) (each_found P test xs p.1)
  where
    by_test : (b : Bool) → IfAny P (find test xs) → IfAny P (cond b (Some x) (find test xs))
    by_test true r = p.0
    by_test false r = r

pub any_map : {A B : Type 0} (P : A → Type 0) (Q : B → Type 0) (f : A → B) → ((x : A) → P x → Q (f x)) → (o : Option A) → IfAny P o → IfAny Q (option_map f o)
any_map P Q f h None p = tt
any_map P Q f h (Some x) p = h x p
