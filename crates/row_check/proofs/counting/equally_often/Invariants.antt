use Rattle.std.proofs.Common.{◌≡◌, ◌<◌, ℕ, List, count_by, get_or}
use Rattle.std.specs.List.{AllZip}
use Rattle.row_check.specs.Merging.{Sums, equal_sums, Keeps}
use Rattle.row_check.proofs.counting.equally_often.Given as goal

abbrev pub invariant-loop-choice : goal.invariant-loop-choice
invariant-loop-choice l = (n : ℕ) (ds es : List Sums) → AllZip (Keeps n) ds l.a → AllZip (Keeps n) es l.b →
    (k : ℕ) (d : Sums) → k < l.choice-index → count_by (equal_sums (get_or ds k d)) ds ≡ count_by (equal_sums (get_or ds k d)) es
