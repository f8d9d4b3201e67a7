-- Words among others, as they are compared one by one.
use Rattle.std.proofs.Common.{arith, ◌≡◌, ◌≢◌, subst, ℕ, zero, suc, ◌+◌, ◌<◌, List, [], ◌∷◌, length, take, map, slice_index_or}
use Rattle.std.specs.List.{AllByRecursion}

module _ {X : Type 0} (f : X → List ℕ) (w : List ℕ) (d : X) where
  pub one_more_other : (xs : List X) (i : ℕ) → i < length xs → AllByRecursion (λ n. w ≢ n) (map f (take i xs)) → w ≢ f (slice_index_or xs i d) → AllByRecursion (λ n. w ≢ n) (map f (take (i + 1) xs))
  one_more_other [] i lt all new = absurd (omega (arith, lt))
  one_more_other (x ∷ xs) zero lt all new = (new, tt)
  one_more_other (x ∷ xs) (suc i) lt all new =
      let e : suc (i + 1) ≡ suc i + 1 = omega arith in
      subst (λ n. AllByRecursion (λ m. w ≢ m) (map f (take n (x ∷ xs)))) e (all.0, one_more_other xs i (omega (arith, lt)) all.1 new)

  pub other_than : (xs : List X) (i : ℕ) → i < length xs → AllByRecursion (λ n. w ≢ n) (map f xs) → w ≢ f (slice_index_or xs i d)
  other_than [] i lt all = absurd (omega (arith, lt))
  other_than (x ∷ xs) zero lt all = all.0
  other_than (x ∷ xs) (suc i) lt all = other_than xs i (omega (arith, lt)) all.1
