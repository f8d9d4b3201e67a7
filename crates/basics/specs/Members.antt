-- What holds of some member of a list, or of all; filters, and the place of the first that passes.
use Rattle.std.proofs.Common.{◌≡◌, ℕ, zero, suc, ◌+◌, Bool, true, false, cond, not, ◌||◌, nat_lt, List, [], ◌∷◌, ◌++◌, map, length, filter, find, position, All, Some, None, is_some, option_map, slice_index_or, slice_get, inl, inr, refl, sym, subst, ap, ◌∙◌, arith, lt-ltb}
use Rattle.std.specs.List.{list_any, position_or_len, AllZip}
use Rattle.std.proofs.lemmas.Bool.{or_left, or_right, or_cases}
use Rattle.std.proofs.lemmas.List.Elements.{All-nil, All-cons, All-head, All-tail}
use Rattle.std.proofs.lemmas.List.Folds.{list_any-append}
use Rattle.std.proofs.Math.Bool.{or-false}
use Rattle.basics.specs.Booleans.{first_false, second_false, or_exchange}
use Rattle.basics.specs.Numbers.{nat_lt-suc}
use Rattle.basics.specs.Options.{is_some-map}

-- ---- all

pub all_each : {A : Type 0} (P : A → Type 0) → ((x : A) → P x) → (xs : List A) → All P xs
all_each P h xs k d l = h (slice_index_or xs k d)

pub All-unmap : {A B : Type 0} (P : B → Type 0) (f : A → B) (xs : List A) → All P (map f xs) → All (λ x. P (f x)) xs
All-unmap P f [] h = All-nil (λ x. P (f x))
All-unmap P f (x ∷ xs) h = All-cons (λ x. P (f x)) x xs (All-head P (f x) (map f xs) h) (All-unmap P f xs (All-tail P (f x) (map f xs) h))

pub all_get : {A : Type 0} (P : A → Type 0) (xs : List A) (i : ℕ) (x : A) → All P xs → slice_get xs i ≡ Some x → P x
all_get P [] i x h e = absurd cc
all_get P (y ∷ ys) zero x h e = subst P (let f : y ≡ x = cc in f) (All-head P y ys h)
all_get P (y ∷ ys) (suc i) x h e = all_get P ys i x (All-tail P y ys h) e

pub length_zip : {A B : Type 0} (R : A → B → Type 0) (xs : List A) (ys : List B) → AllZip R xs ys → length xs ≡ length ys
length_zip R [] [] h = refl
length_zip R [] (y ∷ ys) h = absurd h
length_zip R (x ∷ xs) [] h = absurd h
length_zip R (x ∷ xs) (y ∷ ys) h = ap suc (length_zip R xs ys h.1)

-- ---- some member passes

pub any_agree : {A : Type 0} (p q : A → Bool) → ((x : A) → p x ≡ q x) → (xs : List A) → list_any p xs ≡ list_any q xs
any_agree p q h [] = refl
any_agree p q h (x ∷ xs) = ap (λ b. b || list_any p xs) (h x) ∙ ap (λ b. q x || b) (any_agree p q h xs)

pub any-map : {A B : Type 0} (p : B → Bool) (f : A → B) (xs : List A) → list_any p (map f xs) ≡ list_any (λ x. p (f x)) xs
any-map p f [] = refl
any-map p f (x ∷ xs) = ap (λ b. p (f x) || b) (any-map p f xs)

pub any_push : {A : Type 0} (p : A → Bool) (xs : List A) (x : A) → list_any p (xs ++ x ∷ []) ≡ (list_any p xs || p x)
any_push p xs x = list_any-append p xs (x ∷ []) ∙ ap (λ b. list_any p xs || b) (or-false (p x))

pub any_weaker : {A : Type 0} (p q : A → Bool) → ((x : A) → p x ≡ true → q x ≡ true) → (xs : List A) → list_any p xs ≡ true → list_any q xs ≡ true
any_weaker p q m [] h = h
any_weaker p q m (x ∷ xs) h = elim (or_cases (p x) (list_any p xs) h) [
  | inl e ↦ or_left (q x) (list_any q xs) (m x e)
  | inr e ↦ or_right (q x) (list_any q xs) (any_weaker p q m xs e)
]

pub any_two : {A : Type 0} (p q : A → Bool) (xs : List A) → list_any (λ x. p x || q x) xs ≡ (list_any p xs || list_any q xs)
any_two p q [] = refl
any_two p q (x ∷ xs) = ap (λ b. (p x || q x) || b) (any_two p q xs) ∙ or_exchange (p x) (q x) (list_any p xs) (list_any q xs)

pub any_never : {A : Type 0} (xs : List A) → list_any (λ x. false) xs ≡ false
any_never [] = refl
any_never (x ∷ xs) = any_never xs

pub none_passes : {A : Type 0} (p : A → Bool) (xs : List A) → list_any p xs ≡ false → All (λ x. p x ≡ false) xs
none_passes p [] h = All-nil (λ x. p x ≡ false)
none_passes p (x ∷ xs) h = All-cons (λ x. p x ≡ false) x xs (first_false (p x) (list_any p xs) h) (none_passes p xs (second_false (p x) (list_any p xs) h))

-- ---- filters

pub filter-map : {A B : Type 0} (p : B → Bool) (f : A → B) (xs : List A) → filter p (map f xs) ≡ map f (filter (λ x. p (f x)) xs)
filter-map p f [] = refl
filter-map p f (x ∷ xs) = ap (λ r. cond (p (f x)) (f x ∷ r) r) (filter-map p f xs) ∙ pulled (p (f x))
  where
    pulled : (b : Bool) → cond b (f x ∷ map f (filter (λ x. p (f x)) xs)) (map f (filter (λ x. p (f x)) xs)) ≡ map f (cond b (x ∷ filter (λ x. p (f x)) xs) (filter (λ x. p (f x)) xs))
    pulled true = refl
    pulled false = refl

pub filter_none : {A : Type 0} (p : A → Bool) (xs : List A) → list_any p xs ≡ false → filter p xs ≡ []
filter_none p [] h = refl
filter_none p (x ∷ xs) h = by_test (p x) h (filter_none p xs)
  where
    by_test : (b : Bool) → (b || list_any p xs) ≡ false → (list_any p xs ≡ false → filter p xs ≡ []) → cond b (x ∷ filter p xs) (filter p xs) ≡ []
    by_test true g r = absurd cc
    by_test false g r = r g

-- ---- the first that passes

position_by : (b : Bool) (n m : ℕ) →
    cond (nat_lt (cond (not b) (1 + n) 0) (suc m)) (Some (cond (not b) (1 + n) 0)) None ≡ cond b (Some 0) (option_map suc (cond (nat_lt n m) (Some n) None))
position_by true n m =
    let first : nat_lt 0 (suc m) ≡ true = lt-ltb 0 (suc m) (omega arith) in
    ap (λ b. cond b (Some 0) None) first
position_by false n m =
    let on : 1 + n ≡ suc n = omega arith in
    ap (λ k. cond (nat_lt k (suc m)) (Some k) None) on ∙ ap (λ c. cond c (Some (suc n)) None) (nat_lt-suc n m) ∙ by_test (nat_lt n m)
  where
    by_test : (c : Bool) → cond c (Some (suc n)) None ≡ option_map suc (cond c (Some n) None)
    by_test true = refl
    by_test false = refl

pub position_cons : {A : Type 0} (p : A → Bool) (x : A) (xs : List A) → position p (x ∷ xs) ≡ cond (p x) (Some 0) (option_map suc (position p xs))
position_cons p x xs = position_by (p x) (position_or_len p xs) (length xs)

pub is_some-position : {A : Type 0} (p : A → Bool) (xs : List A) → is_some (position p xs) ≡ list_any p xs
is_some-position p [] = refl
is_some-position p (x ∷ xs) = ap is_some (position_cons p x xs) ∙ by_test (p x) (is_some-position p xs)
  where
    by_test : (b : Bool) → is_some (position p xs) ≡ list_any p xs → is_some (cond b (Some 0) (option_map suc (position p xs))) ≡ (b || list_any p xs)
    by_test true e = refl
    by_test false e = is_some-map suc (position p xs) ∙ e

pub none_at_end : {A : Type 0} (p : A → Bool) (xs : List A) → list_any p xs ≡ false → position_or_len p xs ≡ length xs
none_at_end p [] h = refl
none_at_end p (x ∷ xs) h = by_test (p x) h (none_at_end p xs)
  where
    by_test : (b : Bool) → (b || list_any p xs) ≡ false → (list_any p xs ≡ false → position_or_len p xs ≡ length xs) → cond (not b) (1 + position_or_len p xs) 0 ≡ suc (length xs)
    by_test true g r = absurd cc
    by_test false g r = let e = r g in omega arith

pub found_passes : {A : Type 0} (p : A → Bool) (xs : List A) (x : A) → find p xs ≡ Some x → p x ≡ true
found_passes p [] x e = absurd cc
found_passes p (y ∷ ys) x e = by_test (p y) refl e (λ k. found_passes p ys x k)
  where
    by_test : (b : Bool) → p y ≡ b → cond b (Some y) (find p ys) ≡ Some x → (find p ys ≡ Some x → p x ≡ true) → p x ≡ true
    by_test true h k ih = let same : y ≡ x = cc in ap p (sym same) ∙ h
    by_test false h k ih = ih k
