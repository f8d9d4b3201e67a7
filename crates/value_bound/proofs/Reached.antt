-- Certificates bound the greatest probabilities of reaching, and these those of any strategy.
use Rattle.std.proofs.Common.{◌≡◌, ℕ, zero, suc, ◌<◌, List, [], ◌∷◌, map, Bool, true, false, if◌then◌else◌, nat_eq, refl, sym, subst₂}
use Rattle.std.specs.List.{All}
use Rattle.std.specs.Ordering.{is_le}
use Rattle.std.proofs.lemmas.List.Elements.{All-head, All-tail, All-nil, All-cons, All-filter}
use Rattle.frac_core.specs.Fraction.{Fraction, nought, unit, plus, times, compare}
use Rattle.frac_core.specs.Laws.{plus_comm, times_comm}
use Rattle.frac_core.specs.Order.{AtMost, AtMost_refl, AtMost_trans, plus_AtMost, times_AtMost}
use Rattle.row_check.specs.declared.data.Row.{Row}
use Rattle.row_check.specs.Rows.{runs, rows_of, joined, same_choice}
use Rattle.value_bound.specs.Reaching.{expected, choices_of, larger, greatest, best, IsCertificate, AreBest}
use Rattle.value_bound.specs.Laws.{CertificatesBound}

pub plus_both : (a b c d : Fraction) → AtMost a b → AtMost c d → AtMost (plus a c) (plus b d)
plus_both a b c d h k = AtMost_trans _ _ _ (plus_AtMost a b c h) (subst₂ AtMost (plus_comm c b) (plus_comm d b) (plus_AtMost c d b k))

pub times_left : (w x y : Fraction) → AtMost nought w → AtMost x y → AtMost (times w x) (times w y)
times_left w x y h k = subst₂ AtMost (times_comm x w) (times_comm y w) (times_AtMost x y w h k)

-- greater values of the targets give a choice a greater one
pub expected_AtMost : (f g : ℕ → Fraction) (rs : List Row) → All (λ r. AtMost nought r.weight) rs → All (λ r. AtMost (f r.target) (g r.target)) rs → AtMost (expected f rs) (expected g rs)
expected_AtMost f g [] h k = AtMost_refl nought
expected_AtMost f g (r ∷ rs) h k =
    plus_both _ _ _ _
    (times_left r.weight (f r.target) (g r.target) (All-head (λ (x : Row). AtMost nought x.weight) r rs h) (All-head (λ (x : Row). AtMost (f x.target) (g x.target)) r rs k))
    (expected_AtMost f g rs (All-tail (λ (x : Row). AtMost nought x.weight) r rs h) (All-tail (λ (x : Row). AtMost (f x.target) (g x.target)) r rs k))

larger_AtMost : (x y b : Fraction) → AtMost x b → AtMost y b → AtMost (larger x y) b
larger_AtMost x y b h k = by_test (is_le (compare x y))
  where
    by_test : (c : Bool) → AtMost (if c then y else x) b
    by_test true = k
    by_test false = h

pub greatest_AtMost : (xs : List Fraction) (b : Fraction) → AtMost nought b → All (λ x. AtMost x b) xs → AtMost (greatest xs) b
greatest_AtMost [] b z h = z
greatest_AtMost (x ∷ []) b z h = All-head (λ y. AtMost y b) x [] h
greatest_AtMost (x ∷ y ∷ ys) b z h =
    larger_AtMost x (greatest (y ∷ ys)) b (All-head (λ q. AtMost q b) x (y ∷ ys) h) (greatest_AtMost (y ∷ ys) b z (All-tail (λ q. AtMost q b) x (y ∷ ys) h))

-- what holds of all rows holds of the rows of each choice
pub in_runs : (P : Row → Type 0) (rs : List Row) → All P rs → All (All P) (runs rs)
in_runs P [] h = All-nil (All P)
in_runs P (r ∷ rs) h = add (All-head P r rs h) (runs rs) (in_runs P rs (All-tail P r rs h))
  where
    one : P r → All P (r ∷ [])
    one k = All-cons P r [] k (All-nil P)

    add : P r → (acc : List (List Row)) → All (All P) acc → All (All P) (joined r acc)
    add k [] a = All-cons (All P) (r ∷ []) [] (one k) (All-nil (All P))
    add k ([] ∷ rest) a = All-cons (All P) (r ∷ []) rest (one k) (All-tail (All P) [] rest a)
    add k ((q ∷ qs) ∷ rest) a = by_test (same_choice r q)
      where
        by_test : (b : Bool) → All (All P) (if b then (r ∷ q ∷ qs) ∷ rest else (r ∷ []) ∷ (q ∷ qs) ∷ rest)
        by_test true = All-cons (All P) (r ∷ q ∷ qs) rest (All-cons P r (q ∷ qs) k (All-head (All P) (q ∷ qs) rest a)) (All-tail (All P) (q ∷ qs) rest a)
        by_test false = All-cons (All P) (r ∷ []) ((q ∷ qs) ∷ rest) (one k) a

pub in_choices : (P : Row → Type 0) (k : ℕ) (rs : List Row) → All P rs → All (All P) (choices_of k rs)
in_choices P k rs h = in_runs P (rows_of k rs) (All-filter (λ r. nat_eq r.source k) P rs h)

module _ (count : ℕ) (target : ℕ → Bool) (rs : List Row) (bound : ℕ → Fraction) (listed : All (λ r. r.target < count) rs) (weights : All (λ r. AtMost nought r.weight) rs) (c : IsCertificate count target rs bound) where
  -- one step further
  runs_AtMost : (f : ℕ → Fraction) → ((k : ℕ) → k < count → AtMost (f k) (bound k)) → (b : Fraction) (rss : List (List Row)) → All (All (λ r. r.target < count)) rss → All (All (λ r. AtMost nought r.weight)) rss →
      All (λ run. AtMost (expected bound run) b) rss → All (λ x. AtMost x b) (map (expected f) rss)
  runs_AtMost f ih b [] l w h = All-nil (λ x. AtMost x b)
  runs_AtMost f ih b (run ∷ rss) l w h =
      All-cons (λ x. AtMost x b) (expected f run) (map (expected f) rss)
      (AtMost_trans _ _ _ (expected_AtMost f bound run (All-head (All (λ (r : Row). AtMost nought r.weight)) run rss w) (λ i d k. ih _ (All-head (All (λ (r : Row). r.target < count)) run rss l i d k)))
      (All-head (λ q. AtMost (expected bound q) b) run rss h))
      (runs_AtMost f ih b rss (All-tail (All (λ (r : Row). r.target < count)) run rss l) (All-tail (All (λ (r : Row). AtMost nought r.weight)) run rss w) (All-tail (λ q. AtMost (expected bound q) b) run rss h))

  bounded : AreBest count target rs bound
  bounded zero k l = by_test (target k) refl
    where
      by_test : (b : Bool) → b ≡ target k → AtMost (if b then unit else nought) (bound k)
      by_test true e = c.at_target k l (sym e)
      by_test false e = c.not_negative k l
  bounded (suc n) k l = by_test (bounded n) (target k) refl
    where
      by_test : ((k : ℕ) → k < count → AtMost (best target rs n k) (bound k)) → (b : Bool) → b ≡ target k → AtMost (if b then unit else greatest (map (expected (best target rs n)) (choices_of k rs))) (bound k)
      by_test ih true e = c.at_target k l (sym e)
      by_test ih false e =
          greatest_AtMost _ (bound k) (c.not_negative k l)
          (runs_AtMost (best target rs n) ih (bound k) (choices_of k rs) (in_choices (λ (r : Row). r.target < count) k rs listed) (in_choices (λ (r : Row). AtMost nought r.weight) k rs weights)
          (c.elsewhere k l (sym e)))

pub certificates_bound : CertificatesBound
certificates_bound = bounded
