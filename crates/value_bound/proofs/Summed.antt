-- A sum from the left, and what may pass the bound of fractions on the way.
use Rattle.std.proofs.Common.{◌≡◌, ℕ, zero, suc, ◌+◌, ◌<◌, List, [], ◌∷◌, ◌||◌, Bool, true, false, Option, Some, None, if◌then◌else◌, length, get_or, drop, refl, sym, ap, ap₂, ◌∙◌, ◌≤◌, Ok, Err, subst, arith}
use Rattle.std.proofs.lemmas.List.{drop_all}
use Rattle.std.specs.List.{list_any, All}
use Rattle.frac_core.specs.Fraction.{Fraction, nought, plus, times, is_wide}
use Rattle.frac_core.specs.Laws.{nought_plus, plus_nought, plus_assoc}
use Rattle.frac_core.specs.Results.{narrow, wide_where, from_narrow}
use Rattle.frac_core.specs.declared.fraction.FracFail.{FracFail}
use Rattle.frac_core.specs.Sums.{total}
use Rattle.process_core.specs.Bounds.{partial_sums}
use Rattle.row_check.specs.declared.data.Row.{Row}
use Rattle.row_check.proofs.Walked.{from_place}
use Rattle.value_bound.specs.Reaching.{products, expected}
use Rattle.value_bound.specs.Bounds.{is_expected_wide, bound_at}

-- the sum from `a` on; none where a member or a sum is wide
abbrev pub summed : Fraction → List Fraction → Option Fraction
summed a [] = Some a
summed a (x ∷ xs) = if is_wide x then None else if is_wide (plus a x) then None else summed (plus a x) xs

abbrev pub is_sum_wide : Fraction → List Fraction → Bool
is_sum_wide a xs = list_any is_wide xs || list_any is_wide (partial_sums a xs)

summed_is : (a : Fraction) (xs : List Fraction) → summed a xs ≡ (if is_sum_wide a xs then None else Some (plus a (total xs)))
summed_is a [] = ap Some (sym (plus_nought a))
summed_is a (x ∷ xs) = by_tests (is_wide x) (is_wide (plus a x)) (list_any is_wide xs) (list_any is_wide (partial_sums (plus a x) xs)) (summed_is (plus a x) xs)
  where
    by_tests : (b c d e : Bool) → summed (plus a x) xs ≡ (if d || e then None else Some (plus (plus a x) (total xs))) →
        (if b then None else if c then None else summed (plus a x) xs) ≡ (if (b || d) || (c || e) then None else Some (plus a (plus x (total xs))))
    by_tests true c d e h = refl
    by_tests false true true e h = refl
    by_tests false true false e h = refl
    by_tests false false d e h = h ∙ ap (λ s. if d || e then None else Some s) (plus_assoc a x (total xs))

module _ (f : ℕ → Fraction) (run : List Row) where
  pub expected_is : summed nought (products f run) ≡ (if is_expected_wide f run then None else Some (expected f run))
  expected_is = summed_is nought (products f run) ∙ ap (λ s. if is_expected_wide f run then None else Some s) (nought_plus (expected f run))

  pub all_summed : (i : ℕ) (a : Fraction) → length run ≤ i → summed a (products f (drop i run)) ≡ Some a
  all_summed i a l = ap (λ rs. summed a (products f rs)) (drop_all i run l)

  module _ (i : ℕ) (r : Row) (a : Fraction) (l : i < length run) (e : r ≡ get_or run i r) where
    next : summed a (products f (drop i run)) ≡ (if is_wide (times r.weight (f r.target)) then None else if is_wide (plus a (times r.weight (f r.target))) then None else summed (plus a (times r.weight (f r.target))) (products f (drop (i + 1) run)))
    next = ap (λ rs. summed a (products f rs)) (from_place run i r l e)

    pub wide_product : is_wide (times r.weight (f r.target)) ≡ true → summed a (products f (drop i run)) ≡ None
    wide_product w = next ∙ ap (λ b. if b then None else if is_wide (plus a (times r.weight (f r.target))) then None else summed (plus a (times r.weight (f r.target))) (products f (drop (i + 1) run))) w

    pub wide_sum : is_wide (times r.weight (f r.target)) ≡ false → is_wide (plus a (times r.weight (f r.target))) ≡ true → summed a (products f (drop i run)) ≡ None
    wide_sum n w = next ∙ ap₂ (λ b c. if b then None else if c then None else summed (plus a (times r.weight (f r.target))) (products f (drop (i + 1) run))) n w

    pub one_more : is_wide (times r.weight (f r.target)) ≡ false → is_wide (plus a (times r.weight (f r.target))) ≡ false → summed a (products f (drop i run)) ≡ summed (plus a (times r.weight (f r.target))) (products f (drop (i + 1) run))
    one_more n w = next ∙ ap₂ (λ b c. if b then None else if c then None else summed (plus a (times r.weight (f r.target))) (products f (drop (i + 1) run))) n w

-- ---- what a program keeps
same_bound : (bs : List Fraction) (i : ℕ) (x : Fraction) → i < length bs → x ≡ get_or bs i x → x ≡ bound_at bs i
same_bound [] i x l e = absurd (omega (arith, l))
same_bound (b ∷ bs) zero x l e = e
same_bound (b ∷ bs) (suc i) x l e = same_bound bs i x (omega (arith, l)) e

module _ (bs : List Fraction) (run : List Row) (targets : All (λ r. r.target < length bs) run) (a : Fraction) (i : ℕ) (kept : summed nought (products (bound_at bs) run) ≡ summed a (products (bound_at bs) (drop i run))) where
  -- all rows are summed up
  pub at_end : length run ≤ i → Some a ≡ (if is_expected_wide (bound_at bs) run then None else Some (expected (bound_at bs) run))
  at_end l = sym (kept ∙ all_summed (bound_at bs) run i a l) ∙ expected_is (bound_at bs) run

  module _ (r : Row) (x : Fraction) (l : i < length run) (e : r ≡ get_or run i r) (b : x ≡ get_or bs r.target x) where
    bound_is : x ≡ bound_at bs r.target
    bound_is = same_bound bs r.target x (subst (λ (q : Row). q.target < length bs) (sym e) (targets i r l)) b

    product_is : times r.weight (bound_at bs r.target) ≡ times r.weight x
    product_is = ap (times r.weight) (sym bound_is)

    -- the product is wide, or the sum is
    pub at_product : (f : FracFail) → narrow (times r.weight x) ≡ Err f → None ≡ (if is_expected_wide (bound_at bs) run then None else Some (expected (bound_at bs) run))
    at_product f h =
        sym (kept ∙ wide_product (bound_at bs) run i r a l e (ap is_wide product_is ∙ wide_where (times r.weight x) f h)) ∙ expected_is (bound_at bs) run

    pub at_sum : (p : Fraction) → narrow (times r.weight x) ≡ Ok p → (f : FracFail) → narrow (plus a p) ≡ Err f → None ≡ (if is_expected_wide (bound_at bs) run then None else Some (expected (bound_at bs) run))
    at_sum p h f k =
        let n = from_narrow (times r.weight x) p h in
        let same : plus a (times r.weight (bound_at bs r.target)) ≡ plus a p = ap (plus a) (product_is ∙ sym n.0) in
        sym (kept ∙ wide_sum (bound_at bs) run i r a l e (ap is_wide (product_is ∙ sym n.0) ∙ n.1) (ap is_wide same ∙ wide_where (plus a p) f k)) ∙ expected_is (bound_at bs) run
