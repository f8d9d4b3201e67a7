-- What Yes certifies.
use Rattle.std.proofs.Common.{◌≡◌, ℕ, ◌<◌, List, [], ◌∷◌, Bool, true, false, Option, Some, None, length, sym, subst}
use Rattle.std.specs.List.{All}
use Rattle.std.proofs.lemmas.List.Elements.{All-nil, All-cons}
use Rattle.frac_core.specs.Fraction.{Fraction, nought, unit}
use Rattle.frac_core.specs.Order.{AtMost, AtMost_trans}
use Rattle.process_core.specs.Laws.{MergingLaws}
use Rattle.process_core.specs.Steps.{Process}
use Rattle.row_check.specs.declared.data.Row.{Row}
use Rattle.row_check.specs.declared.data.ReadRows.{ReadRows}
use Rattle.row_check.specs.Index.{values_at}
use Rattle.row_check.specs.Rows.{AreRows}
use Rattle.row_check.specs.Laws.{RowFilesOrdered, RowsYes, WeightsNotNegative, BoundsNotNegative}
use Rattle.row_check.proofs.Judged.{all_pass}
use Rattle.value_bound.specs.Reaching.{expected, choices_of, AreBest}
use Rattle.value_bound.specs.Bounds.{InTurn, JudgesChoice, JudgesLabel, JudgesState, JudgesStates, label_at, is_true, is_target, bound_at}
use Rattle.value_bound.specs.Own.{is_labelled}
use Rattle.value_bound.specs.Laws.{YesCertifies}
use Rattle.value_bound.proofs.Reached.{certificates_bound}
use Rattle.value_bound.proofs.Strategic.{best_is_greatest}
use Rattle.value_bound.proofs.OwnReached.{own_at_most}
use Rattle.value_bound.proofs.OwnStrategic.{own_best_is_greatest}

choices_pass : (bound : ℕ → Fraction) (i : ℕ) (rss : List (List Row)) → InTurn (JudgesChoice bound i) rss None → All (λ run. AtMost (expected bound run) (bound i)) rss
choices_pass bound i [] h = All-nil (λ (run : List Row). AtMost (expected bound run) (bound i))
choices_pass bound i (run ∷ rss) h = All-cons (λ (run : List Row). AtMost (expected bound run) (bound i)) run rss h.0.1 (choices_pass bound i rss h.1)

label_passes : (m : Option Bool) (bound : ℕ → Fraction) (rss : List (List Row)) (i : ℕ) → JudgesLabel bound i rss m None →
    (is_true m ≡ true → AtMost unit (bound i)) × (is_true m ≡ false → All (λ run. AtMost (expected bound run) (bound i)) rss)
label_passes None bound rss i h = absurd cc
label_passes (Some true) bound rss i h = (λ e. h, λ e. absurd cc)
label_passes (Some false) bound rss i h = (λ e. absurd cc, λ e. choices_pass bound i rss h)

-- where nothing fails of the states, the bounds are a certificate
pub states_pass : (p : Process) (r : ReadRows) (label : ℕ) (bs : List Fraction) → AreRows p r → All (λ x. AtMost nought x.weight) r.rows → ((k : ℕ) → k < length r.states → AtMost nought (bound_at bs k)) →
    JudgesStates p r label bs None → AreBest (length r.states) (is_target p label r.states) r.rows (bound_at bs)
states_pass p r label bs a w z h =
    certificates_bound (length r.states) (is_target p label r.states) r.rows (bound_at bs) a.targets w
    (let passes = λ (k : ℕ) (l : k < length r.states).
    label_passes (label_at p label (values_at r.states k)) (bound_at bs) (choices_of k r.rows) k (all_pass (JudgesState p label r.rows (bound_at bs)) r.states h k (record { values = [] }) l).1 in
    record { not_negative = z; at_target = λ k l. (passes k l).0; elsewhere = λ k l. (passes k l).1 })

pub yes_certifies : MergingLaws → RowFilesOrdered → RowsYes → WeightsNotNegative → BoundsNotNegative → YesCertifies
yes_certifies merging ordered rows_yes weights bounds_law p states rows label bounds r bs proper files values h =
    let own = ((rows_yes p r (ordered p states rows r files)).0 h.0).0 in
    let positive = bounds_law (length r.states) bounds bs values in
    let count = values.1 in
    let bounded = states_pass p r label bs own (weights p states rows r files) (λ k l. positive k nought (subst (λ n. k < n) (sym count) l)) h.1 in
    let own_bounded = λ (n k : ℕ) (l : k < length r.states). AtMost_trans _ _ _ (own_at_most merging p r label proper own (weights p states rows r files) n k l) (bounded n k l) in
    record {
      read = r;
      values = bs;
      rows_are = files;
      bounds_are = values;
      own = own;
      bounded = bounded;
      own_bounded = own_bounded;
      strategic = λ s n k l. AtMost_trans _ _ _ (best_is_greatest (is_target p label r.states) r.rows s n [] k (weights p states rows r files)) (bounded n k l);
      own_strategic = λ s n k l. AtMost_trans _ _ _ (own_best_is_greatest p (is_labelled p label) s n [] (values_at r.states k) proper (own.states k l)) (own_bounded n k l);
    }
