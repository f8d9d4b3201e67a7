-- One state further along the rows.
use Rattle.std.proofs.Common.{◌≡◌, ℕ, ◌+◌, ◌-◌, ◌≤◌, List, Option, nat_eq, length, take, drop, sym, ap, ◌∙◌, subst, arith}
use Rattle.std.specs.List.{prefix_len}
use Rattle.std.proofs.lemmas.List.{drop-drop}
use Rattle.frac_core.specs.Fraction.{Fraction}
use Rattle.process_core.specs.Steps.{Process}
use Rattle.process_core.specs.declared.data.State.{State}
use Rattle.row_check.specs.declared.data.Row.{Row}
use Rattle.row_check.specs.Judging.{Each}
use Rattle.row_check.specs.Rows.{runs, rows_of}
use Rattle.row_check.specs.Walked.{AreSortedFrom}
use Rattle.row_check.proofs.Segments.{whole_rest, rows_here, rows_past, sorted_past}
use Rattle.value_bound.specs.declared.data.BoundVerdict.{BoundVerdict}
use Rattle.value_bound.specs.Bounds.{JudgesAt, JudgesState}

-- the same of other names for the lists and what is told
pub same_states : (p : Process) (label : ℕ) (bound : ℕ → Fraction) (xs ss : List State) (qs rs : List Row) (o q : Option BoundVerdict) → xs ≡ ss → qs ≡ rs → o ≡ q →
    Each (JudgesState p label qs bound) 0 xs o → Each (JudgesState p label rs bound) 0 ss q
same_states p label bound xs ss qs rs o q e f i h =
    subst (λ z. Each (JudgesState p label rs bound) 0 ss z) i (subst (λ z. Each (JudgesState p label z bound) 0 ss o) f (subst (λ z. Each (JudgesState p label qs bound) 0 z o) e h))

module _ (rows : List Row) (k from count : ℕ) (sorted : AreSortedFrom k (drop from rows)) (counted : count ≡ prefix_len (λ r. nat_eq r.source k) (take (length rows - from) (drop from rows))) where
  count_here : count ≡ prefix_len (λ r. nat_eq r.source k) (drop from rows)
  count_here = counted ∙ ap (prefix_len (λ r. nat_eq r.source k)) (whole_rest rows from)

  past : drop (prefix_len (λ r. nat_eq r.source k) (drop from rows)) (drop from rows) ≡ drop (from + count) rows
  past = ap (λ n. drop n (drop from rows)) (sym count_here) ∙ drop-drop count from rows

  pub sorted_next : AreSortedFrom (k + 1) (drop (from + count) rows)
  sorted_next = subst (AreSortedFrom (k + 1)) past (sorted_past k (drop from rows) sorted)

  module _ (rows_are : (j : ℕ) → k ≤ j → rows_of j rows ≡ rows_of j (drop from rows)) where
    pub rows_next : (j : ℕ) → k + 1 ≤ j → rows_of j rows ≡ rows_of j (drop (from + count) rows)
    rows_next j l = rows_are j (omega arith) ∙ rows_past k j (omega arith) (drop from rows) ∙ ap (rows_of j) past

    -- what is told of the rows that stand here is told of the state's rows
    pub state_judged : (p : Process) (label : ℕ) (bound : ℕ → Fraction) (s : State) (o : Option BoundVerdict) →
        JudgesAt p label bound (runs (take (from + count - from) (drop from rows))) k s.values o → JudgesState p label rows bound k s o
    state_judged p label bound s o h =
        let same : from + count - from ≡ count = omega arith in
        let own : take (from + count - from) (drop from rows) ≡ rows_of k rows =
        ap (λ m. take m (drop from rows)) (same ∙ count_here) ∙ sym (rows_here k (drop from rows) sorted) ∙ sym (rows_are k (omega arith)) in
        subst (λ l. JudgesAt p label bound (runs l) k s.values o) own h
