-- What certificates and the verdict Yes mean, and that there is one verdict, as statements. (This project's own.)
use Rattle.std.specs.Prelude.{◌≡◌, ◌≢◌, ℕ, ◌<◌, List, Bool, IsTrue, Result, Err, length}
use Rattle.std.specs.declared.alloc.AllocError.{AllocError}
use Rattle.std.specs.List.{All}
use Rattle.frac_core.specs.Fraction.{Fraction, nought}
use Rattle.frac_core.specs.Order.{AtMost}
use Rattle.process_core.specs.Ready.{Values}
use Rattle.process_core.specs.Steps.{Process, IsProcess}
use Rattle.row_check.specs.declared.data.Row.{Row}
use Rattle.row_check.specs.declared.data.ReadRows.{ReadRows}
use Rattle.row_check.specs.Index.{values_at}
use Rattle.row_check.specs.Forms.{AreRowFiles, AreBounds}
use Rattle.row_check.specs.Rows.{AreRows}
use Rattle.value_bound.specs.declared.data.BoundVerdict.{BoundVerdict}
use Rattle.value_bound.specs.declared.data.BoundVerdict.TheVariants.{Yes}
use Rattle.value_bound.specs.Reaching.{best, IsCertificate, AreBest}
use Rattle.value_bound.specs.Strategies.{Strategy, reached}
use Rattle.value_bound.specs.Bounds.{JudgesBounds, is_target}
use Rattle.value_bound.specs.Own.{best_in, OwnStrategy, reached_in, is_labelled}
use Rattle.value_bound.specs.declared.data.BoundRefused.{BoundRefused}
use Rattle.value_bound.specs.declared.data.BoundRefused.TheVariants.{Memory}
use Rattle.value_bound.specs.Checks.{ChecksBound, IsCertified}

-- where all targets of rows are among so many states and no probability is negative, a certificate bounds the greatest
-- probabilities, whatever the number of steps
abbrev pub CertificatesBound : Type 0
CertificatesBound = (count : ℕ) (target : ℕ → Bool) (rs : List Row) (bound : ℕ → Fraction) →
    All (λ r. r.target < count) rs → All (λ r. AtMost nought r.weight) rs → IsCertificate count target rs bound → AreBest count target rs bound

-- where no probability is negative, no strategy reaches a target with more than the greatest probability
abbrev pub BestIsGreatest : Type 0
BestIsGreatest = (target : ℕ → Bool) (rs : List Row) (s : Strategy) (n : ℕ) (past : List ℕ) (k : ℕ) →
    All (λ r. AtMost nought r.weight) rs → AtMost (reached s target rs n past k) (best target rs n k)

-- nor does any strategy over the choices of the process itself, from a state, with more than the greatest over these
abbrev pub OwnBestIsGreatest : Type 0
OwnBestIsGreatest = (p : Process) (target : Values → Bool) (s : OwnStrategy) (n : ℕ) (past : List Values) (v : Values) →
    IsProcess p → IsTrue (p.is_state v) → AtMost (reached_in s p target n past v) (best_in p target n v)

-- there is one verdict
abbrev pub BoundsOnce : Type 0
BoundsOnce = (p : Process) (r : ReadRows) (label : ℕ) (bs : List Fraction) (v w : BoundVerdict) → JudgesBounds p r label bs v → JudgesBounds p r label bs w → v ≡ w

-- on the same files there is one answer, want of memory aside
abbrev pub OneAnswer : Type 0
OneAnswer = (p : Process) (states rows : List ℕ) (label : ℕ) (bounds : List ℕ) (a b : Result BoundVerdict BoundRefused) → ((e : AllocError) → a ≢ Err (Memory e)) → ((e : AllocError) → b ≢ Err (Memory e)) →
    ChecksBound p states rows label bounds a → ChecksBound p states rows label bounds b → a ≡ b

-- Yes certifies the bounds
abbrev pub YesCertifies : Type 0
YesCertifies = (p : Process) (states rows : List ℕ) (label : ℕ) (bounds : List ℕ) (r : ReadRows) (bs : List Fraction) → IsProcess p →
    AreRowFiles p states rows r → AreBounds (length r.states) bounds bs → JudgesBounds p r label bs Yes → IsCertified p states rows label bounds

-- the greatest probabilities of the process itself, from its listed states, are at most those over its rows
abbrev pub OwnAtMost : Type 0
OwnAtMost = (p : Process) (r : ReadRows) (label : ℕ) → IsProcess p → AreRows p r → All (λ (x : Row). AtMost nought x.weight) r.rows → (n k : ℕ) → k < length r.states →
    AtMost (best_in p (is_labelled p label) n (values_at r.states k)) (best (is_target p label r.states) r.rows n k)
