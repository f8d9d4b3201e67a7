-- Places of members that pass tests.
use Rattle.std.specs.Prelude.{◌≡◌, ℕ, suc, ◌+◌, List, [], ◌∷◌, ◌++◌, map, length, Bool, true, false, ◌||◌, cond}
use Rattle.std.specs.List.{filter, list_any, range_with_len, All}
use Rattle.std.proofs.Common.{refl, ap, ap₂, ◌∙◌, arith}
use Rattle.std.proofs.lemmas.List.Elements.{All-head, All-tail}
use Rattle.process_core.specs.Instance.{numbered, only_if}
use Rattle.jani_meaning.proofs.Columns.{numbered-append}
use Rattle.edge_tables.specs.Tables.{places_of, has_some}

pub numbered-map : {X Y Z : Type 0} (f : ℕ → Y → List Z) (g : X → Y) (i : ℕ) (xs : List X) → numbered f i (map g xs) ≡ numbered (λ j x. f j (g x)) i xs
numbered-map f g i [] = refl
numbered-map f g i (x ∷ xs) = ap (λ l. f i (g x) ++ l) (numbered-map f g (i + 1) xs)

-- places from a number on
abbrev pub places_from : {X : Type 0} → (X → Bool) → ℕ → List X → List ℕ
places_from p i xs = numbered (λ j x. only_if (p x) j) i xs

pub places_agree : {X : Type 0} (p q : X → Bool) (i : ℕ) (xs : List X) → All (λ x. p x ≡ q x) xs → places_from p i xs ≡ places_from q i xs
places_agree p q i [] h = refl
places_agree p q i (x ∷ xs) h =
    ap₂ (λ b l. only_if b i ++ l) (All-head (λ x. p x ≡ q x) x xs h) (places_agree p q (i + 1) xs (All-tail (λ x. p x ≡ q x) x xs h))

pub no_places : {X : Type 0} (p : X → Bool) (i : ℕ) (xs : List X) → All (λ x. p x ≡ false) xs → places_from p i xs ≡ []
no_places p i [] h = refl
no_places p i (x ∷ xs) h =
    ap₂ (λ b l. only_if b i ++ l) (All-head (λ x. p x ≡ false) x xs h) (no_places p (i + 1) xs (All-tail (λ x. p x ≡ false) x xs h))

pub all_places : {X : Type 0} (p : X → Bool) (i : ℕ) (xs : List X) → All (λ x. p x ≡ true) xs → places_from p i xs ≡ range_with_len i (length xs)
all_places p i [] h = refl
all_places p i (x ∷ xs) h =
    ap₂ (λ b l. only_if b i ++ l) (All-head (λ x. p x ≡ true) x xs h) (all_places p (i + 1) xs (All-tail (λ x. p x ≡ true) x xs h))

-- all of them, or none
pub places_if : {X : Type 0} (p : X → Bool) (b : Bool) (i : ℕ) (xs : List X) → All (λ x. p x ≡ b) xs → places_from p i xs ≡ cond b (range_with_len i (length xs)) []
places_if p true i xs h = all_places p i xs h
places_if p false i xs h = no_places p i xs h

-- how many there are
pub count_places : {X : Type 0} (p : X → Bool) (i : ℕ) (xs : List X) → length (places_from p i xs) ≡ length (filter p xs)
count_places p i [] = refl
count_places p i (x ∷ xs) = by_test (p x) (count_places p (i + 1) xs)
  where
    by_test : (b : Bool) → length (places_from p (i + 1) xs) ≡ length (filter p xs) → length (only_if b i ++ places_from p (i + 1) xs) ≡ length (cond b (x ∷ filter p xs) (filter p xs))
    by_test true e = ap suc e
    by_test false e = e

pub places_more : {X : Type 0} (p : X → Bool) (xs : List X) (x : X) → places_of p (xs ++ x ∷ []) ≡ places_of p xs ++ only_if (p x) (length xs)
places_more p xs x =
    numbered-append (λ i y. only_if (p y) i) 0 xs (x ∷ [])
    ∙ ap (λ l. places_of p xs ++ l) (one (p x) (0 + length xs) ∙ ap (λ n. only_if (p x) n) (let e : 0 + length xs ≡ length xs = omega arith in e))
  where
    one : (b : Bool) (n : ℕ) → only_if b n ++ [] ≡ only_if b n
    one true n = refl
    one false n = refl

pub any_place : {X : Type 0} (p : X → Bool) (i : ℕ) (xs : List X) → has_some (places_from p i xs) ≡ list_any p xs
any_place p i [] = refl
any_place p i (x ∷ xs) = by_test (p x) (any_place p (i + 1) xs)
  where
    by_test : (b : Bool) → has_some (places_from p (i + 1) xs) ≡ list_any p xs → has_some (only_if b i ++ places_from p (i + 1) xs) ≡ (b || list_any p xs)
    by_test true e = refl
    by_test false e = e
