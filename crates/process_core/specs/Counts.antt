-- Lists of one length in which each member of the first occurs as often as in the second hold the same members equally
-- often: so a program may count.
use Rattle.std.specs.Prelude.{◌≡◌, ℕ, suc, ◌+◌, ◌<◌, List, [], ◌∷◌, Bool, true, false, cond, if◌then◌else◌, length, get_or}
use Rattle.std.specs.List.{sum_by, count_by, All}
use Rattle.std.proofs.Common.{refl, sym, ap, ◌∙◌, arith}
use Rattle.std.proofs.lemmas.List.Sums.{sum_by-cons}
use Rattle.std.proofs.lemmas.List.Elements.{All-head, All-tail}
use Rattle.process_core.specs.Process.{EquallyOften}
use Rattle.process_core.specs.Equal.{IsEquality}

module _ {X : Type 0} (same : X → X → Bool) (eq : IsEquality same) where
  -- the list without the first member that is the same
  abbrev removed : X → List X → List X
  removed x [] = []
  removed x (y ∷ ys) = if same x y then ys else y ∷ removed x ys

  weighed_at : (g : X → ℕ) (x y : X) (ys : List X) → (0 < count_by (same x) ys → sum_by g ys ≡ g x + sum_by g (removed x ys)) →
      (b : Bool) → b ≡ same x y → 0 < cond b 1 0 + count_by (same x) ys → g y + sum_by g ys ≡ g x + sum_by g (if b then ys else y ∷ removed x ys)
  weighed_at g x y ys ih true e k = ap (λ z. g z + sum_by g ys) (sym ((eq x y).0 (sym e)))
  weighed_at g x y ys ih false e k =
      let a = ih (omega arith) in
      let b = sum_by-cons g y (removed x ys) in
      omega arith

  weighed : (g : X → ℕ) (x : X) (ys : List X) → 0 < count_by (same x) ys → sum_by g ys ≡ g x + sum_by g (removed x ys)
  weighed g x [] k = let no : ⊥ = omega arith in absurd no
  weighed g x (y ∷ ys) k =
      sum_by-cons g y ys
      ∙ weighed_at g x y ys (weighed g x ys) (same x y) refl (let e = sum_by-cons (λ z. cond (same x z) 1 0) y ys in omega arith)

  shorter_at : (x y : X) (ys : List X) → (0 < count_by (same x) ys → length ys ≡ suc (length (removed x ys))) →
      (b : Bool) → 0 < cond b 1 0 + count_by (same x) ys → length ys ≡ length (if b then ys else y ∷ removed x ys)
  shorter_at x y ys ih true k = refl
  shorter_at x y ys ih false k = ih (omega arith)

  shorter : (x : X) (ys : List X) → 0 < count_by (same x) ys → length ys ≡ suc (length (removed x ys))
  shorter x [] k = let no : ⊥ = omega arith in absurd no
  shorter x (y ∷ ys) k = ap suc (shorter_at x y ys (shorter x ys) (same x y) (let e = sum_by-cons (λ z. cond (same x z) 1 0) y ys in omega arith))

  -- a list counts its own first member
  counts_first : (x : X) (xs : List X) → count_by (same x) (x ∷ xs) ≡ 1 + count_by (same x) xs
  counts_first x xs = sum_by-cons (λ z. cond (same x z) 1 0) x xs ∙ ap (λ b. cond b 1 0 + count_by (same x) xs) ((eq x x).1 refl)

  weighs_same : (xs ys : List X) → length xs ≡ length ys → All (λ x. count_by (same x) xs ≡ count_by (same x) ys) xs → (g : X → ℕ) → sum_by g xs ≡ sum_by g ys
  weighs_same [] [] l h g = refl
  weighs_same [] (y ∷ ys) l h g = let no : ⊥ = omega arith in absurd no
  weighs_same (x ∷ xs) ys l h g =
      let here = All-head (λ z. count_by (same z) (x ∷ xs) ≡ count_by (same z) ys) x xs h in
      let rest = All-tail (λ z. count_by (same z) (x ∷ xs) ≡ count_by (same z) ys) x xs h in
      let some : 0 < count_by (same x) ys = let a = counts_first x xs in omega arith in
      let ih : sum_by g xs ≡ sum_by g (removed x ys) =
      weighs_same xs (removed x ys) (let s = shorter x ys some in omega arith)
      (λ k d m.
      let z = get_or xs k d in
      let a = sum_by-cons (λ w. cond (same z w) 1 0) x xs in
      let b = weighed (λ w. cond (same z w) 1 0) x ys some in
      let c = rest k d m in
      omega arith) g in
      sum_by-cons g x xs ∙ ap (λ n. g x + n) ih ∙ sym (weighed g x ys some)

  pub often_from_counts : (xs ys : List X) → length xs ≡ length ys → All (λ x. count_by (same x) xs ≡ count_by (same x) ys) xs → EquallyOften xs ys
  often_from_counts xs ys l h = record { weighs = weighs_same xs ys l h }
