-- Lists that are made part by part.
use Rattle.std.specs.Prelude.{ℕ, ◌<◌, ◌+◌, List, [], ◌∷◌, ◌++◌, map, length, drop, Bool}
use Rattle.std.specs.List.{filter, flat_map, sum_by}
use Rattle.std.proofs.Common.{◌≡◌, refl, sym, ap, ap₂, ◌∙◌, append_assoc, get_or, arith}
use Rattle.std.proofs.lemmas.List.{at_drop_more, map-append}
use Rattle.std.proofs.lemmas.List.Concat.{flat_map_single}
use Rattle.std.proofs.lemmas.List.Sums.{sum_by-cons}
use Rattle.std.proofs.lemmas.Simd.{map-map}
use Rattle.std.proofs.lemmas.List.Elements.{filter-append}

pub two_added : {A : Type 0} (a b l0 l1 l2 : List A) → l1 ≡ l0 ++ a → l2 ≡ l1 ++ b → l2 ≡ l0 ++ (a ++ b)
two_added a b l0 l1 l2 p q = q ∙ ap (λ l. l ++ b) p ∙ append_assoc l0 a b

pub two_from_none : {A : Type 0} (a b l0 l1 l2 : List A) → l0 ≡ [] → l1 ≡ l0 ++ a → l2 ≡ l1 ++ b → l2 ≡ a ++ b
two_from_none a b l0 l1 l2 n p q = two_added a b l0 l1 l2 p q ∙ ap (λ l. l ++ (a ++ b)) n

pub three_from_none : {A : Type 0} (a b c l0 l1 l2 l3 : List A) → l0 ≡ [] → l1 ≡ l0 ++ a → l2 ≡ l1 ++ b → l3 ≡ l2 ++ c → l3 ≡ a ++ (b ++ c)
three_from_none a b c l0 l1 l2 l3 n p q r = r ∙ ap (λ l. l ++ c) (two_from_none a b l0 l1 l2 n p q) ∙ append_assoc a b c

-- one name each
pub each_name : {A B C : Type 0} (f : B → C) (g : A → B) (xs ys : List A) → xs ≡ ys → flat_map (λ x. f (g x) ∷ []) xs ≡ map f (map g ys)
each_name f g xs ys e = ap (flat_map (λ x. f (g x) ∷ [])) e ∙ flat_map_single (λ x. f (g x)) ys ∙ sym (map-map f g ys)

-- more at the end of a list that has more at its end already
pub added_of : {A : Type 0} (l0 l1 a b : List A) → l1 ≡ l0 ++ a → a ≡ b → l1 ≡ l0 ++ b
added_of l0 l1 a b p e = p ∙ ap (λ l. l0 ++ l) e

singles : {A : Type 0} (xs : List A) → flat_map (λ x. x ∷ []) xs ≡ xs
singles [] = refl
singles (x ∷ xs) = ap (λ r. x ∷ r) (singles xs)

-- names that are parts themselves
pub each_itself : {A : Type 0} (xs ys : List A) → xs ≡ ys → flat_map (λ x. x ∷ []) xs ≡ ys
each_itself xs ys e = singles xs ∙ e

-- what is made of the names of what is seen is made of the names
pub by_names : {A B N C : Type 0} (view : A → B) (f : N → C) (seen_name : B → N) (name : A → N) → ((x : A) → seen_name (view x) ≡ name x) → (xs : List A) →
    map (λ x. f (name x)) xs ≡ map f (map seen_name (map view xs))
by_names view f seen_name name h [] = refl
by_names view f seen_name name h (x ∷ xs) = ap₂ (λ y ys. f y ∷ ys) (sym (h x)) (by_names view f seen_name name h xs)

pub from_none : {A : Type 0} (l rest : List A) → l ≡ [] → l ++ rest ≡ rest
from_none l rest e = ap (λ k. k ++ rest) e

pub filter_flat : {A B C : Type 0} (f : C → Bool) (g : B → C) (h : A → List B) (xs : List A) → filter f (map g (flat_map h xs)) ≡ flat_map (λ x. filter f (map g (h x))) xs
filter_flat f g h [] = refl
filter_flat f g h (x ∷ xs) =
    ap (filter f) (map-append g (h x) (flat_map h xs)) ∙ filter-append f (map g (h x)) (map g (flat_map h xs)) ∙ ap (λ r. filter f (map g (h x)) ++ r) (filter_flat f g h xs)

-- one number of a sum more
pub sum_next : {A : Type 0} (f : A → ℕ) (xs : List A) (i : ℕ) (x : A) (sum n whole : ℕ) → i < length xs → x ≡ get_or xs i x → n ≡ f x →
    sum + sum_by f (drop i xs) ≡ whole → (sum + n) + sum_by f (drop (i + 1) xs) ≡ whole
sum_next f xs i x sum n whole h is e so_far =
    let rest = sum_by f (drop (i + 1) xs) in
    let parts : sum_by f (x ∷ drop (i + 1) xs) ≡ f x + rest = sum_by-cons f x (drop (i + 1) xs) in
    let all : sum + sum_by f (x ∷ drop (i + 1) xs) ≡ whole =
    sym (at_drop_more (λ ys. sum + sum_by f ys) xs i x h ∙ ap (λ y. sum + sum_by f (y ∷ drop (i + 1) xs)) (sym is)) ∙ so_far in
    omega (arith, parts, all, e)
