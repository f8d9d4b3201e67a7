-- What the verdict Yes means, that there is one verdict, and that a file is read in one way, as statements. (This project's own.)
use Rattle.std.specs.Prelude.{◌≡◌, ◌↔◌, ℕ, suc, List, length, Option, None, Result}
use Rattle.std.specs.List.{All}
use Rattle.frac_core.specs.Fraction.{Fraction, nought}
use Rattle.frac_core.specs.Order.{AtMost}
use Rattle.process_core.specs.Steps.{Process}
use Rattle.process_core.specs.declared.data.State.{State}
use Rattle.row_check.specs.declared.data.ReadPath.{ReadPath}
use Rattle.row_check.specs.declared.data.ReadRows.{ReadRows}
use Rattle.row_check.specs.declared.data.Verdict.{Verdict}
use Rattle.row_check.specs.declared.data.Verdict.TheVariants.{Yes}
use Rattle.row_check.specs.Judging.{Judges}
use Rattle.row_check.specs.Paths.{IsOwnPath, IsNarrowPath, JudgesPath}
use Rattle.row_check.specs.Rows.{AreReadRows, AreRows, AreNarrowRows, JudgesRows}
use Rattle.row_check.specs.Forms.{IsPathFile, AreRowFiles, AreBounds, ReadsPath, ReadsStates, ReadsRowsOf, ReadsBounds}

-- nothing fails exactly where the path is the model's and nothing passes a bound
abbrev pub PathYes : Type 0
PathYes = (p : Process) (path : ReadPath) → JudgesPath p path None ↔ (IsOwnPath p path × IsNarrowPath p path)

-- likewise of rows
abbrev pub RowsYes : Type 0
RowsYes = (p : Process) (r : ReadRows) → AreReadRows r → JudgesRows p r None ↔ (AreRows p r × AreNarrowRows p r)

-- there is one verdict
abbrev pub PathOnce : Type 0
PathOnce = (p : Process) (path : ReadPath) (o q : Option Verdict) → JudgesPath p path o → JudgesPath p path q → o ≡ q

abbrev pub RowsOnce : Type 0
RowsOnce = (p : Process) (r : ReadRows) (o q : Option Verdict) → JudgesRows p r o → JudgesRows p r q → o ≡ q

-- a verdict is Yes exactly where the path is the model's and nothing passes a bound; likewise of rows
abbrev pub PathIsYes : Type 0
PathIsYes = (p : Process) (path : ReadPath) (v : Verdict) → Judges (JudgesPath p path) v → (v ≡ Yes) ↔ (IsOwnPath p path × IsNarrowPath p path)

abbrev pub RowsAreYes : Type 0
RowsAreYes = (p : Process) (r : ReadRows) (v : Verdict) → AreReadRows r → Judges (JudgesRows p r) v → (v ≡ Yes) ↔ (AreRows p r × AreNarrowRows p r)

-- ---- files
-- what is read meets the conditions under which it is judged
abbrev pub RowFilesOrdered : Type 0
RowFilesOrdered = (p : Process) (states rows : List ℕ) (r : ReadRows) → AreRowFiles p states rows r → AreReadRows r

abbrev pub PathFileWhole : Type 0
PathFileWhole = (p : Process) (bytes : List ℕ) (path : ReadPath) → IsPathFile p bytes path → length path.states ≡ suc (length path.labels)

-- a file has one content, or one line that breaks the form first
abbrev pub PathReadOnce : Type 0
PathReadOnce = (p : Process) (bytes : List ℕ) (r q : Result ReadPath ℕ) → ReadsPath p bytes r → ReadsPath p bytes q → r ≡ q

abbrev pub StatesReadOnce : Type 0
StatesReadOnce = (p : Process) (bytes : List ℕ) (r q : Result (List State) ℕ) → ReadsStates p bytes r → ReadsStates p bytes q → r ≡ q

abbrev pub RowsReadOnce : Type 0
RowsReadOnce = (ss : List State) (bytes : List ℕ) (r q : Result ReadRows ℕ) → ReadsRowsOf ss bytes r → ReadsRowsOf ss bytes q → r ≡ q

abbrev pub BoundsReadOnce : Type 0
BoundsReadOnce = (n : ℕ) (bytes : List ℕ) (r q : Result (List Fraction) ℕ) → ReadsBounds n bytes r → ReadsBounds n bytes q → r ≡ q

-- no probability is negative, and no bound
abbrev pub WeightsNotNegative : Type 0
WeightsNotNegative = (p : Process) (states rows : List ℕ) (r : ReadRows) → AreRowFiles p states rows r → All (λ x. AtMost nought x.weight) r.rows

abbrev pub BoundsNotNegative : Type 0
BoundsNotNegative = (n : ℕ) (bytes : List ℕ) (xs : List Fraction) → AreBounds n bytes xs → All (AtMost nought) xs
