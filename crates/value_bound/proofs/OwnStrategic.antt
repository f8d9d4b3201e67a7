-- No strategy over the process's own choices reaches a target with more than the greatest probability.
use Rattle.std.proofs.Common.{ℕ, zero, suc, List, [], ◌∷◌, map, Bool, true, false, IsTrue, if◌then◌else◌, get_or, subst}
use Rattle.std.specs.List.{All}
use Rattle.std.proofs.lemmas.List.Elements.{All-head, All-tail}
use Rattle.frac_core.specs.Fraction.{Fraction, nought, unit, times}
use Rattle.frac_core.specs.Laws.{nought_plus, times_nought}
use Rattle.frac_core.specs.Order.{AtMost, AtMost_refl, AtMost_trans}
use Rattle.process_core.specs.Process.{Branch}
use Rattle.process_core.specs.Distribution.{IsDistribution}
use Rattle.process_core.specs.Ready.{Values}
use Rattle.process_core.specs.Steps.{Process, IsProcess}
use Rattle.row_check.specs.Merging.{GoodChoice, good_choices}
use Rattle.value_bound.specs.Reaching.{greatest}
use Rattle.value_bound.specs.Own.{value_in, best_in, OwnStrategy, reached_in}
use Rattle.value_bound.specs.Laws.{OwnBestIsGreatest}
use Rattle.value_bound.proofs.Reached.{plus_both, times_left}
use Rattle.value_bound.proofs.Strategic.{larger_left, larger_right, nought_unit}
use Rattle.value_bound.proofs.OwnReached.{good_proper}

module _ (is_state : Values → Bool) where
  -- greater values of the targets give a choice a greater one
  value_AtMost : (f g : Values → Fraction) → ((v : Values) → IsTrue (is_state v) → AtMost (f v) (g v)) → (bs : List (Branch Fraction Values)) → All (λ b. IsTrue (is_state b.target)) bs → All (λ b. AtMost nought b.probability) bs →
      AtMost (value_in f bs) (value_in g bs)
  value_AtMost f g below [] t w = AtMost_refl nought
  value_AtMost f g below (b ∷ bs) t w =
      plus_both _ _ _ _
      (times_left b.probability (f b.target) (g b.target) (All-head (λ (x : Branch Fraction Values). AtMost nought x.probability) b bs w) (below b.target (All-head (λ (x : Branch Fraction Values). IsTrue (is_state x.target)) b bs t)))
      (value_AtMost f g below bs (All-tail (λ (x : Branch Fraction Values). IsTrue (is_state x.target)) b bs t) (All-tail (λ (x : Branch Fraction Values). AtMost nought x.probability) b bs w))

  value_not_negative : (g : Values → Fraction) → ((v : Values) → IsTrue (is_state v) → AtMost nought (g v)) → (bs : List (Branch Fraction Values)) → All (λ b. IsTrue (is_state b.target)) bs → All (λ b. AtMost nought b.probability) bs →
      AtMost nought (value_in g bs)
  value_not_negative g positive [] t w = AtMost_refl nought
  value_not_negative g positive (b ∷ bs) t w =
      let weight = All-head (λ (x : Branch Fraction Values). AtMost nought x.probability) b bs w in
      let first = subst (λ x. AtMost x (times b.probability (g b.target))) (times_nought b.probability)
      (times_left b.probability nought (g b.target) weight (positive b.target (All-head (λ (x : Branch Fraction Values). IsTrue (is_state x.target)) b bs t))) in
      subst (λ x. AtMost x (value_in g (b ∷ bs))) (nought_plus nought)
      (plus_both nought (times b.probability (g b.target)) nought (value_in g bs) first
      (value_not_negative g positive bs (All-tail (λ (x : Branch Fraction Values). IsTrue (is_state x.target)) b bs t) (All-tail (λ (x : Branch Fraction Values). AtMost nought x.probability) b bs w)))

  module _ (g : Values → Fraction) (positive : (v : Values) → IsTrue (is_state v) → AtMost nought (g v)) where
    value_positive : (c : GoodChoice) → IsDistribution is_state c.branches → AtMost nought (value_in g c.branches)
    value_positive c d = value_not_negative g positive c.branches d.targets d.not_negative

    greatest_positive : (cs : List GoodChoice) → All (λ c. IsDistribution is_state c.branches) cs → AtMost nought (greatest (map (λ c. value_in g c.branches) cs))
    greatest_positive [] d = AtMost_refl nought
    greatest_positive (c ∷ []) d = value_positive c (All-head (λ (x : GoodChoice). IsDistribution is_state x.branches) c [] d)
    greatest_positive (c ∷ other ∷ cs) d =
        AtMost_trans _ _ _ (value_positive c (All-head (λ (x : GoodChoice). IsDistribution is_state x.branches) c (other ∷ cs) d)) (larger_left (value_in g c.branches) (greatest (map (λ (x : GoodChoice). value_in g x.branches) (other ∷ cs))))

    module _ (f : Values → Fraction) (below : (v : Values) → IsTrue (is_state v) → AtMost (f v) (g v)) where
      one : (c : GoodChoice) → IsDistribution is_state c.branches → AtMost (value_in f c.branches) (value_in g c.branches)
      one c d = value_AtMost f g below c.branches d.targets d.not_negative

      none : (i : ℕ) → AtMost (value_in f (get_or [] i [])) nought
      none zero = AtMost_refl nought
      none (suc i) = AtMost_refl nought

      -- the choice of any number, or none, comes to at most the greatest
      chosen : (cs : List GoodChoice) → All (λ c. IsDistribution is_state c.branches) cs → (i : ℕ) → AtMost (value_in f (get_or (map (λ c. c.branches) cs) i [])) (greatest (map (λ c. value_in g c.branches) cs))
      chosen [] d i = none i
      chosen (c ∷ []) d zero = one c (All-head (λ (x : GoodChoice). IsDistribution is_state x.branches) c [] d)
      chosen (c ∷ []) d (suc i) = AtMost_trans _ _ _ (none i) (value_positive c (All-head (λ (x : GoodChoice). IsDistribution is_state x.branches) c [] d))
      chosen (c ∷ other ∷ cs) d zero =
          AtMost_trans _ _ _ (one c (All-head (λ (x : GoodChoice). IsDistribution is_state x.branches) c (other ∷ cs) d)) (larger_left (value_in g c.branches) (greatest (map (λ (x : GoodChoice). value_in g x.branches) (other ∷ cs))))
      chosen (c ∷ other ∷ cs) d (suc i) =
          AtMost_trans _ _ _ (chosen (other ∷ cs) (All-tail (λ (x : GoodChoice). IsDistribution is_state x.branches) c (other ∷ cs) d) i)
          (larger_right (value_in g c.branches) (greatest (map (λ (x : GoodChoice). value_in g x.branches) (other ∷ cs))))

module _ (p : Process) (target : Values → Bool) (proper : IsProcess p) where
  distributions : (v : Values) → IsTrue (p.is_state v) → All (λ (c : GoodChoice). IsDistribution p.is_state c.branches) (good_choices (p.choices v))
  distributions v h = good_proper p.is_state (p.choices v) (proper.proper v h)

  best_positive : (n : ℕ) (v : Values) → IsTrue (p.is_state v) → AtMost nought (best_in p target n v)
  best_positive zero v h = by_test (target v)
    where
      by_test : (b : Bool) → AtMost nought (if b then unit else nought)
      by_test true = nought_unit
      by_test false = AtMost_refl nought
  best_positive (suc n) v h = by_test (best_positive n) (target v)
    where
      by_test : ((u : Values) → IsTrue (p.is_state u) → AtMost nought (best_in p target n u)) → (b : Bool) → AtMost nought (if b then unit else greatest (map (λ c. value_in (best_in p target n) c.branches) (good_choices (p.choices v))))
      by_test ih true = nought_unit
      by_test ih false = greatest_positive p.is_state (best_in p target n) ih (good_choices (p.choices v)) (distributions v h)

  own_strategic : (s : OwnStrategy) (n : ℕ) (past : List Values) (v : Values) → IsTrue (p.is_state v) → AtMost (reached_in s p target n past v) (best_in p target n v)
  own_strategic s zero past v h = AtMost_refl _
  own_strategic s (suc n) past v h = by_test (own_strategic s n (v ∷ past)) (target v)
    where
      by_test : ((u : Values) → IsTrue (p.is_state u) → AtMost (reached_in s p target n (v ∷ past) u) (best_in p target n u)) → (b : Bool) →
          AtMost (if b then unit else value_in (reached_in s p target n (v ∷ past)) (get_or (map (λ c. c.branches) (good_choices (p.choices v))) (s (v ∷ past)) []))
          (if b then unit else greatest (map (λ c. value_in (best_in p target n) c.branches) (good_choices (p.choices v))))
      by_test ih true = AtMost_refl unit
      by_test ih false = chosen p.is_state (best_in p target n) (best_positive n) (reached_in s p target n (v ∷ past)) ih (good_choices (p.choices v)) (distributions v h) (s (v ∷ past))

pub own_best_is_greatest : OwnBestIsGreatest
own_best_is_greatest p target s n past v proper h = own_strategic p target proper s n past v h
