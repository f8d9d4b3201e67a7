-- One state further along the list.
use Rattle.std.proofs.Common.{◌≡◌, ℕ, ◌+◌, ◌-◌, ◌≤◌, List, Option, nat_eq, length, map, take, drop, sym, ap, ap₂, ◌∙◌, subst, arith}
use Rattle.std.specs.List.{prefix_len}
use Rattle.std.proofs.lemmas.List.{drop-drop}
use Rattle.process_core.specs.declared.data.State.{State}
use Rattle.row_check.specs.declared.data.Row.{Row}
use Rattle.row_check.specs.declared.data.Verdict.{Verdict}
use Rattle.process_core.specs.Steps.{Process}
use Rattle.row_check.specs.Merging.{choice_of_rows, TargetsListed}
use Rattle.row_check.specs.Rows.{runs, rows_of, file_choices, target_verdict, JudgesState, JudgesChoicesAt}
use Rattle.row_check.specs.Walked.{AreSortedFrom}
use Rattle.row_check.proofs.Judged.{passes}
use Rattle.row_check.proofs.Segments.{whole_rest, rows_here, rows_past, verdict_here, verdict_past, sorted_past}

module _ (rows : List Row) (k from count : ℕ) (sorted : AreSortedFrom k (drop from rows)) (counted : count ≡ prefix_len (λ r. nat_eq r.source k) (take (length rows - from) (drop from rows))) where
  count_here : count ≡ prefix_len (λ r. nat_eq r.source k) (drop from rows)
  count_here = counted ∙ ap (prefix_len (λ r. nat_eq r.source k)) (whole_rest rows from)

  past : drop (prefix_len (λ r. nat_eq r.source k) (drop from rows)) (drop from rows) ≡ drop (from + count) rows
  past = ap (λ n. drop n (drop from rows)) (sym count_here) ∙ drop-drop count from rows

  pub sorted_next : AreSortedFrom (k + 1) (drop (from + count) rows)
  sorted_next = subst (AreSortedFrom (k + 1)) past (sorted_past k (drop from rows) sorted)

  pub own_listed : (n : ℕ) → TargetsListed n (take count (take (length rows - from) (drop from rows))) → TargetsListed n (take (from + count - from) (drop from rows))
  own_listed n t =
      let same : count ≡ from + count - from = omega arith in
      subst (λ m. TargetsListed n (take m (drop from rows))) same (subst (λ l. TargetsListed n (take count l)) (whole_rest rows from) t)

  module _ (rows_are : (j : ℕ) → k ≤ j → rows_of j rows ≡ rows_of j (drop from rows)) (verdicts : (n j : ℕ) → k ≤ j → target_verdict n j 0 rows ≡ target_verdict n j from (drop from rows)) where
    pub rows_next : (j : ℕ) → k + 1 ≤ j → rows_of j rows ≡ rows_of j (drop (from + count) rows)
    rows_next j l = rows_are j (omega arith) ∙ rows_past k j (omega arith) (drop from rows) ∙ ap (rows_of j) past

    pub verdict_next : (n j : ℕ) → k + 1 ≤ j → target_verdict n j 0 rows ≡ target_verdict n j (from + count) (drop (from + count) rows)
    verdict_next n j l =
        verdicts n j (omega arith) ∙ verdict_past k j (omega arith) n from (drop from rows)
        ∙ ap₂ (λ i rs. target_verdict n j i rs) (ap (λ m. from + m) (sym count_here)) past

    pub state_judged : (p : Process) (ss : List State) (s : State) → TargetsListed (length ss) (take count (take (length rows - from) (drop from rows))) → (o : Option Verdict) →
        JudgesChoicesAt p k s.values (map (choice_of_rows ss) (runs (take (from + count - from) (drop from rows)))) o → JudgesState p ss rows k s o
    state_judged p ss s t o h =
        let same : from + count - from ≡ count = omega arith in
        let listed : TargetsListed (length ss) (take (prefix_len (λ r. nat_eq r.source k) (drop from rows)) (drop from rows)) =
        subst (λ m. TargetsListed (length ss) (take m (drop from rows))) count_here (subst (λ l. TargetsListed (length ss) (take count l)) (whole_rest rows from) t) in
        let own : take (from + count - from) (drop from rows) ≡ rows_of k rows =
        ap (λ m. take m (drop from rows)) (same ∙ count_here) ∙ sym (rows_here k (drop from rows) sorted) ∙ sym (rows_are k (omega arith)) in
        passes (λ q. q ≡ target_verdict (length ss) k 0 rows) (JudgesChoicesAt p k s.values (file_choices ss k rows))
        (sym (verdicts (length ss) k (omega arith) ∙ verdict_here (length ss) k from (drop from rows) sorted listed)) o
        (subst (λ l. JudgesChoicesAt p k s.values (map (choice_of_rows ss) (runs l)) o) own h)
