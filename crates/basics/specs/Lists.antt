-- Lists: what makes one empty, the item at an index, and maps.
use Rattle.std.proofs.Common.{◌≡◌, ℕ, zero, suc, ◌+◌, ◌<◌, ◌≤◌, List, [], ◌∷◌, ◌++◌, map, length, take, drop, get_or, slice_get, slice_set, zip, flat_map, false, nat_eq, Some, if◌then◌else◌, refl, sym, ap, ap₂, ◌∙◌, arith, add-one, drop-cons, take_all}
use Rattle.std.proofs.lemmas.Bool.Decides.{nat_tests}
use Rattle.std.proofs.lemmas.List.Concat.{flat_map-append}
use Rattle.std.proofs.lemmas.List.Folds.{flat_map-map}

pub cons_same : {A : Type 0} (x y : A) (xs ys : List A) → x ≡ y → xs ≡ ys → (x ∷ xs) ≡ (y ∷ ys)
cons_same x y xs ys e f = ap₂ (λ u us. u ∷ us) e f

-- ---- empty

abbrev pub IsNotEmpty : {A : Type 0} → List A → Type 0
IsNotEmpty [] = ⊥
IsNotEmpty (x ∷ xs) = Unit {0}

pub append_left : {A : Type 0} (xs ys : List A) → xs ++ ys ≡ [] → xs ≡ []
append_left [] ys e = refl
append_left (x ∷ xs) ys e = absurd cc

pub append_right : {A : Type 0} (xs ys : List A) → xs ++ ys ≡ [] → ys ≡ []
append_right [] ys e = e
append_right (x ∷ xs) ys e = absurd cc

pub empty_map : {A B : Type 0} (f : A → B) (xs : List A) → map f xs ≡ [] → xs ≡ []
empty_map f [] e = refl
empty_map f (x ∷ xs) e = absurd cc

pub append_parts : {A : Type 0} (xs ys : List A) → xs ++ ys ≡ [] → (xs ≡ []) × (ys ≡ [])
append_parts xs ys e = (append_left xs ys e, append_right xs ys e)

pub append_both : {A : Type 0} (xs ys : List A) → xs ≡ [] → ys ≡ [] → xs ++ ys ≡ []
append_both xs ys p q = ap₂ (λ us vs. us ++ vs) p q

pub flat_map_both : {A B : Type 0} (f : A → List B) (xs ys : List A) → flat_map f xs ≡ [] → flat_map f ys ≡ [] → flat_map f (xs ++ ys) ≡ []
flat_map_both f xs ys p q = flat_map-append f xs ys ∙ append_both (flat_map f xs) (flat_map f ys) p q

-- ---- at an index

pub drop_item : {A : Type 0} (xs : List A) (i : ℕ) (x : A) → i < length xs → x ≡ get_or xs i x → drop i xs ≡ x ∷ drop (i + 1) xs
drop_item xs i x h e = rw (add-one, drop-cons xs i x h) (ap (λ y. y ∷ drop (suc i) xs) (sym e))

-- a function of what was taken, at the end
pub at_take_all : {A X : Type 0} (F : List A → X) (xs : List A) (i : ℕ) → length xs ≤ i → F (take i xs) ≡ F xs
at_take_all F xs i h = ap F (take_all i xs h)

pub slice_get-drop : {A : Type 0} (n i : ℕ) (xs : List A) → slice_get (drop n xs) i ≡ slice_get xs (n + i)
slice_get-drop zero i xs = let on : i ≡ zero + i = omega arith in ap (slice_get xs) on
slice_get-drop (suc n) i [] = refl
slice_get-drop (suc n) i (x ∷ xs) =
    let on : suc n + i ≡ suc (n + i) = omega arith in
    slice_get-drop n i xs ∙ ap (slice_get (x ∷ xs)) (sym on)

pub slice_get-take : {A : Type 0} (n i : ℕ) (xs : List A) (x : A) → slice_get (take n xs) i ≡ Some x → (i < n) × (slice_get xs i ≡ Some x)
slice_get-take zero i xs x h = absurd cc
slice_get-take (suc n) i [] x h = absurd cc
slice_get-take (suc n) zero (y ∷ xs) x h = (omega arith, h)
slice_get-take (suc n) (suc i) (y ∷ xs) x h = let r = slice_get-take n i xs x h in (let low = r.0 in omega arith, r.1)

pub slice_get-front : {A : Type 0} (xs ys : List A) (i : ℕ) → i < length xs → slice_get (xs ++ ys) i ≡ slice_get xs i
slice_get-front [] ys i l = absurd (omega (arith, l))
slice_get-front (x ∷ xs) ys zero l = refl
slice_get-front (x ∷ xs) ys (suc i) l = slice_get-front xs ys i (omega (arith, l))

pub slice_get-append_add : {A : Type 0} (xs ys : List A) (n i : ℕ) → length xs ≡ n → slice_get (xs ++ ys) (n + i) ≡ slice_get ys i
slice_get-append_add [] ys n i l = let on : n + i ≡ i = omega arith in ap (slice_get ys) on
slice_get-append_add (x ∷ xs) ys zero i l = absurd (omega arith)
slice_get-append_add (x ∷ xs) ys (suc n) i l =
    let on : suc n + i ≡ suc (n + i) = omega arith in
    ap (slice_get (x ∷ (xs ++ ys))) on ∙ slice_get-append_add xs ys n i (omega arith)

-- ---- maps

pub map_agree : {A B : Type 0} (f g : A → B) → ((x : A) → f x ≡ g x) → (xs : List A) → map f xs ≡ map g xs
map_agree f g h [] = refl
map_agree f g h (x ∷ xs) = ap₂ (λ u us. u ∷ us) (h x) (map_agree f g h xs)

pub flat_map_of : {A B C : Type 0} (f : B → List C) (g : A → B) (xs ys : List A) → xs ≡ ys → flat_map (λ x. f (g x)) xs ≡ flat_map f (map g ys)
flat_map_of f g xs ys e = ap (flat_map (λ x. f (g x))) e ∙ sym (flat_map-map f g ys)

pub each_one : {A B : Type 0} (f : A → B) (xs : List A) → flat_map (λ x. f x ∷ []) xs ≡ map f xs
each_one f [] = refl
each_one f (x ∷ xs) = ap (λ l. f x ∷ l) (each_one f xs)

pub zip_none : {A B Z : Type 0} (f : A → B → Z) (xs : List A) → map (λ p. f p.0 p.1) (zip xs []) ≡ []
zip_none f [] = refl
zip_none f (x ∷ xs) = refl

-- ---- an item put in place of another

pub get_set : {A : Type 0} (xs : List A) (i j : ℕ) (x : A) → i < length xs → slice_get (slice_set xs i x) j ≡ (if nat_eq j i then Some x else slice_get xs j)
get_set [] i j x h = absurd (omega (arith, h))
get_set (y ∷ ys) zero zero x h = refl
get_set (y ∷ ys) zero (suc j) x h = ap (λ b. if b then Some x else slice_get ys j) (let e : false ≡ nat_eq (suc j) 0 = grind (arith, nat_tests) in e)
get_set (y ∷ ys) (suc i) zero x h = ap (λ b. if b then Some x else Some y) (let e : false ≡ nat_eq 0 (suc i) = grind (arith, nat_tests) in e)
get_set (y ∷ ys) (suc i) (suc j) x h =
    get_set ys i j x (omega (arith, h)) ∙ ap (λ b. if b then Some x else slice_get ys j) (let e : nat_eq j i ≡ nat_eq (suc j) (suc i) = grind (arith, nat_tests) in e)
