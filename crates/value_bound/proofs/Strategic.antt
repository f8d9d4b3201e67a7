-- No strategy reaches a target with more than the greatest probability.
use Rattle.std.proofs.Common.{◌≡◌, ℕ, zero, suc, List, [], ◌∷◌, map, Bool, true, false, if◌then◌else◌, get_or, subst, Less, Equal, Greater, arith}
use Rattle.std.proofs.lemmas.Int.{ints}
use Rattle.std.specs.List.{All}
use Rattle.std.specs.Ordering.{is_le, MatchOrdering}
use Rattle.std.specs.declared.cmp.Ordering.{Ordering}
use Rattle.std.proofs.lemmas.List.Elements.{All-head, All-tail}
use Rattle.frac_core.specs.Fraction.{Fraction, nought, unit, times, compare}
use Rattle.frac_core.specs.Laws.{nought_plus, times_nought}
use Rattle.frac_core.specs.Order.{AtMost, Below, AtMost_refl, AtMost_trans, AtMost-whole, compare_ranks}
use Rattle.row_check.specs.declared.data.Row.{Row}
use Rattle.value_bound.specs.Reaching.{expected, choices_of, larger, greatest, best}
use Rattle.value_bound.specs.Strategies.{Strategy, reached}
use Rattle.value_bound.specs.Laws.{BestIsGreatest}
use Rattle.value_bound.proofs.Reached.{plus_both, times_left, expected_AtMost, in_choices}

below_most : (x y : Fraction) → Below x y → AtMost x y
below_most x y h = record { across = let b = h.across in omega (arith, ints) }

same_most : (x y : Fraction) → x ≡ y → AtMost x y
same_most x y e = subst (AtMost x) e (AtMost_refl x)

pub larger_left : (x y : Fraction) → AtMost x (larger x y)
larger_left x y = by_rank (compare x y) (compare_ranks x y)
  where
    by_rank : (r : Ordering) → MatchOrdering r (Below x y) (x ≡ y) (Below y x) → AtMost x (if is_le r then y else x)
    by_rank Less h = below_most x y h
    by_rank Equal h = same_most x y h
    by_rank Greater h = AtMost_refl x

pub larger_right : (x y : Fraction) → AtMost y (larger x y)
larger_right x y = by_rank (compare x y) (compare_ranks x y)
  where
    by_rank : (r : Ordering) → MatchOrdering r (Below x y) (x ≡ y) (Below y x) → AtMost y (if is_le r then y else x)
    by_rank Less h = AtMost_refl y
    by_rank Equal h = AtMost_refl y
    by_rank Greater h = below_most y x h

expected_not_negative : (f : ℕ → Fraction) (rs : List Row) → All (λ r. AtMost nought r.weight) rs → ((k : ℕ) → AtMost nought (f k)) → AtMost nought (expected f rs)
expected_not_negative f [] h k = AtMost_refl nought
expected_not_negative f (r ∷ rs) h k =
    let first = subst (λ x. AtMost x (times r.weight (f r.target))) (times_nought r.weight) (times_left r.weight nought (f r.target) (All-head (λ (x : Row). AtMost nought x.weight) r rs h) (k r.target)) in
    subst (λ x. AtMost x (expected f (r ∷ rs))) (nought_plus nought)
    (plus_both nought (times r.weight (f r.target)) nought (expected f rs) first (expected_not_negative f rs (All-tail (λ (x : Row). AtMost nought x.weight) r rs h) k))

module _ (f g : ℕ → Fraction) (below : (k : ℕ) → AtMost (f k) (g k)) (positive : (k : ℕ) → AtMost nought (g k)) where
  one : (run : List Row) → All (λ r. AtMost nought r.weight) run → AtMost (expected f run) (expected g run)
  one run w = expected_AtMost f g run w (λ i d l. below _)

  -- the choice of any number, or none, comes to at most the greatest
  chosen : (rss : List (List Row)) → All (All (λ r. AtMost nought r.weight)) rss → (i : ℕ) → AtMost (expected f (get_or rss i [])) (greatest (map (expected g) rss))
  chosen [] w zero = AtMost_refl nought
  chosen [] w (suc i) = AtMost_refl nought
  chosen (run ∷ []) w zero = one run (All-head (All (λ (r : Row). AtMost nought r.weight)) run [] w)
  chosen (run ∷ []) w (suc i) = none i
    where
      none : (i : ℕ) → AtMost (expected f (get_or [] i [])) (expected g run)
      none zero = expected_not_negative g run (All-head (All (λ (r : Row). AtMost nought r.weight)) run [] w) positive
      none (suc i) = expected_not_negative g run (All-head (All (λ (r : Row). AtMost nought r.weight)) run [] w) positive
  chosen (run ∷ other ∷ rss) w zero =
      AtMost_trans _ _ _ (one run (All-head (All (λ (r : Row). AtMost nought r.weight)) run (other ∷ rss) w)) (larger_left (expected g run) (greatest (map (expected g) (other ∷ rss))))
  chosen (run ∷ other ∷ rss) w (suc i) =
      AtMost_trans _ _ _ (chosen (other ∷ rss) (All-tail (All (λ (r : Row). AtMost nought r.weight)) run (other ∷ rss) w) i) (larger_right (expected g run) (greatest (map (expected g) (other ∷ rss))))

pub nought_unit : AtMost nought unit
nought_unit = AtMost-whole _ _ (omega (arith, ints))

pub greatest_not_negative : (f : ℕ → Fraction) → ((j : ℕ) → AtMost nought (f j)) → (rss : List (List Row)) → All (All (λ r. AtMost nought r.weight)) rss → AtMost nought (greatest (map (expected f) rss))
greatest_not_negative f p [] w = AtMost_refl nought
greatest_not_negative f p (run ∷ []) w = expected_not_negative f run (All-head (All (λ (r : Row). AtMost nought r.weight)) run [] w) p
greatest_not_negative f p (run ∷ other ∷ rss) w =
    AtMost_trans _ _ _ (expected_not_negative f run (All-head (All (λ (r : Row). AtMost nought r.weight)) run (other ∷ rss) w) p) (larger_left (expected f run) (greatest (map (expected f) (other ∷ rss))))

module _ (target : ℕ → Bool) (rs : List Row) (weights : All (λ r. AtMost nought r.weight) rs) where
  pub best_not_negative : (n k : ℕ) → AtMost nought (best target rs n k)
  best_not_negative zero k = by_test (target k)
    where
      by_test : (b : Bool) → AtMost nought (if b then unit else nought)
      by_test true = nought_unit
      by_test false = AtMost_refl nought
  best_not_negative (suc n) k = by_test (best_not_negative n) (target k)
    where
      by_test : ((j : ℕ) → AtMost nought (best target rs n j)) → (b : Bool) → AtMost nought (if b then unit else greatest (map (expected (best target rs n)) (choices_of k rs)))
      by_test ih true = nought_unit
      by_test ih false = greatest_not_negative (best target rs n) ih (choices_of k rs) (in_choices (λ (r : Row). AtMost nought r.weight) k rs weights)

  strategic : (s : Strategy) (n : ℕ) (past : List ℕ) (k : ℕ) → AtMost (reached s target rs n past k) (best target rs n k)
  strategic s zero past k = AtMost_refl _
  strategic s (suc n) past k = by_test (strategic s n (k ∷ past)) (target k)
    where
      by_test : ((j : ℕ) → AtMost (reached s target rs n (k ∷ past) j) (best target rs n j)) → (b : Bool) →
          AtMost (if b then unit else expected (reached s target rs n (k ∷ past)) (get_or (choices_of k rs) (s (k ∷ past)) [])) (if b then unit else greatest (map (expected (best target rs n)) (choices_of k rs)))
      by_test ih true = AtMost_refl unit
      by_test ih false = chosen (reached s target rs n (k ∷ past)) (best target rs n) ih (best_not_negative n) (choices_of k rs) (in_choices (λ (r : Row). AtMost nought r.weight) k rs weights) (s (k ∷ past))

pub best_is_greatest : BestIsGreatest
best_is_greatest target rs s n past k w = strategic target rs w s n past k
