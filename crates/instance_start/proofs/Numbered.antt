-- Things with numbers, seen otherwise; of two lists; and one thing more. Lists that are made number by number.
use Rattle.std.specs.Prelude.{◌≡◌, ℕ, zero, suc, ◌+◌, ◌<◌, ◌≤◌, List, [], ◌∷◌, ◌++◌, map, length, take, get_or, Bool, true, false, Option, Some, None, nat_eq, slice_get, if◌then◌else◌}
use Rattle.std.specs.Option.{option_map}
use Rattle.std.specs.List.{filter, range_with_len}
use Rattle.std.proofs.Common.{refl, sym, ap, ap₂, ◌∙◌, arith}
use Rattle.std.proofs.lemmas.List.{map-append}
use Rattle.std.proofs.lemmas.List.Elements.{filter-append}
use Rattle.std.proofs.lemmas.Option.{slice_get-map}
use Rattle.basics.specs.Lists.{map_agree}
use Rattle.gathering.proofs.Lists.{mapped_if}
use Rattle.gathering.proofs.Loops.{kept_more, range_more}
use Rattle.process_core.specs.Instance.{only_if}
use Rattle.process_core.specs.Product.{map-map}
use Rattle.instance_start.specs.Numbered.{Numbered, by_number, of_number, with_value}

pub of_seen : {X Y : Type 0} (f : X → Y) (k : ℕ) (xs : List (Numbered X)) → of_number k (map (with_value f) xs) ≡ map f (of_number k xs)
of_seen f k [] = refl
of_seen f k (x ∷ xs) = by_test (nat_eq k x.number) (of_seen f k xs)
  where
    by_test : (b : Bool) → of_number k (map (with_value f) xs) ≡ map f (of_number k xs) →
        map (λ y. y.value) (if b then with_value f x ∷ filter (λ y. nat_eq k y.number) (map (with_value f) xs) else filter (λ y. nat_eq k y.number) (map (with_value f) xs))
        ≡ map f (map (λ y. y.value) (if b then x ∷ filter (λ y. nat_eq k y.number) xs else filter (λ y. nat_eq k y.number) xs))
    by_test true ih = ap (λ l. f x.value ∷ l) ih
    by_test false ih = ih

pub by_seen : {X Y : Type 0} (f : X → Y) (n : ℕ) (xs : List (Numbered X)) → by_number n (map (with_value f) xs) ≡ map (map f) (by_number n xs)
by_seen f n xs =
    map_agree (λ k. of_number k (map (with_value f) xs)) (λ k. map f (of_number k xs)) (λ k. of_seen f k xs) (range_with_len 0 n)
    ∙ sym (map-map (map f) (λ k. of_number k xs) (range_with_len 0 n))

pub of_append : {X : Type 0} (k : ℕ) (xs ys : List (Numbered X)) → of_number k (xs ++ ys) ≡ of_number k xs ++ of_number k ys
of_append k xs ys =
    ap (map (λ x. x.value)) (filter-append (λ x. nat_eq k x.number) xs ys) ∙ map-append (λ x. x.value) (filter (λ x. nat_eq k x.number) xs) (filter (λ x. nat_eq k x.number) ys)

-- one more, where what is gathered is seen as something
pub of_more : {A X Y : Type 0} (k : ℕ) (view : X → Y) (s : A → Numbered Y) (xs : List A) (i : ℕ) (x : A) (c : X) (old new : List X) → i < length xs → x ≡ get_or xs i x →
    map view old ≡ of_number k (map s (take i xs)) → new ≡ old ++ only_if (nat_eq k (s x).number) c → view c ≡ (s x).value → map view new ≡ of_number k (map s (take (i + 1) xs))
of_more {Y = Y} k view s xs i x c old new h e so_far pushed here =
    let p = λ (y : Numbered Y). nat_eq k y.number in
    let before = filter p (map s (take i xs)) in
    mapped_if view (nat_eq k (s x).number) c old new pushed
    ∙ ap₂ (λ (l m : List Y). l ++ m) so_far (ap (only_if (nat_eq k (s x).number)) here)
    ∙ sym (mapped_if (λ y. y.value) (p (s x)) (s x) before (before ++ only_if (p (s x)) (s x)) refl)
    ∙ ap (map (λ y. y.value)) (sym (kept_more p s xs i x h e))

-- ---- one thing for each number
pub counted_more : {Y B : Type 0} (view : Y → B) (f : ℕ → B) (n : ℕ) (old new : List Y) (y : Y) → map view old ≡ map f (range_with_len 0 n) → new ≡ old ++ y ∷ [] → view y ≡ f n →
    map view new ≡ map f (range_with_len 0 (n + 1))
counted_more view f n old new y so_far pushed here =
    ap (map view) pushed
    ∙ map-append view old (y ∷ [])
    ∙ ap₂ (λ a b. a ++ b ∷ []) so_far (here ∙ ap f (let d : n ≡ 0 + n = omega arith in d))
    ∙ sym (map-append f (range_with_len 0 n) ((0 + n) ∷ []))
    ∙ ap (map f) (sym (range_more 0 n))

-- the number at a place of numbers in a row
pub got_range : (a n i : ℕ) → i < n → slice_get (range_with_len a n) i ≡ Some (a + i)
got_range a zero i h = absurd (omega (arith, h))
got_range a (suc n) zero h = ap Some (let d : a ≡ a + 0 = omega arith in d)
got_range a (suc n) (suc i) h = got_range (a + 1) n i (let d : i < n = omega (arith, h) in d) ∙ ap Some (let d : a + 1 + i ≡ a + suc i = omega arith in d)

past_range : (a n i : ℕ) → n ≤ i → slice_get (range_with_len a n) i ≡ None
past_range a zero i h = refl
past_range a (suc n) zero h = absurd (omega (arith, h))
past_range a (suc n) (suc i) h = past_range (a + 1) n i (let d : n ≤ i = omega (arith, h) in d)

pub counted_at : {Y : Type 0} (f : ℕ → Y) (n i : ℕ) → i < n → slice_get (map f (range_with_len 0 n)) i ≡ Some (f i)
counted_at f n i h = slice_get-map f (range_with_len 0 n) i ∙ ap (option_map f) (got_range 0 n i h ∙ ap Some (let d : 0 + i ≡ i = omega arith in d))

pub counted_past : {Y : Type 0} (f : ℕ → Y) (n i : ℕ) → n ≤ i → slice_get (map f (range_with_len 0 n)) i ≡ None
counted_past f n i h = slice_get-map f (range_with_len 0 n) i ∙ ap (option_map f) (past_range 0 n i h)
