-- What is answered about files of states, rows and bounds: the verdict on their content, or the first line that breaks the form;
-- and what Yes says. (This project's own.)
use Rattle.std.specs.Prelude.{◌≡◌, ℕ, ◌<◌, List, [], length, Result, Ok, Err}
use Rattle.bridge_io.specs.declared.reason.Reason.TheVariants.{RowSyntax}
use Rattle.frac_core.specs.Fraction.{Fraction}
use Rattle.frac_core.specs.Order.{AtMost}
use Rattle.process_core.specs.Steps.{Process}
use Rattle.row_check.specs.declared.data.ReadRows.{ReadRows}
use Rattle.row_check.specs.Forms.{AreRowFiles, AreBounds, ReadsBounds, IsStatesBreak, IsRowsBreak}
use Rattle.row_check.specs.Index.{values_at}
use Rattle.row_check.specs.Rows.{AreRows}
use Rattle.value_bound.specs.declared.data.BoundVerdict.{BoundVerdict}
use Rattle.value_bound.specs.declared.data.BoundRefused.{BoundRefused}
use Rattle.value_bound.specs.declared.data.BoundRefused.TheVariants as B
use Rattle.value_bound.specs.Reaching.{AreBest}
use Rattle.value_bound.specs.Strategies.{Strategy, reached}
use Rattle.value_bound.specs.Bounds.{JudgesBounds, is_target, bound_at}
use Rattle.value_bound.specs.Own.{best_in, OwnStrategy, reached_in, is_labelled}

-- the file of bounds breaks its form, those of states and of rows don't
abbrev pub IsBoundsBreak : Process → List ℕ → List ℕ → List ℕ → ℕ → Type 0
IsBoundsBreak p states rows bounds at = (r : ReadRows) × AreRowFiles p states rows r × ReadsBounds (length r.states) bounds (Err at)

-- the verdict on what the three files hold, or the first line that breaks the form of one, of the states before the rows, and of
-- these before the bounds
abbrev pub ChecksBound : Process → List ℕ → List ℕ → ℕ → List ℕ → Result BoundVerdict BoundRefused → Type 0
ChecksBound p states rows label bounds (Ok v) =
    (r : ReadRows) × (bs : List Fraction) × AreRowFiles p states rows r × AreBounds (length r.states) bounds bs × JudgesBounds p r label bs v
ChecksBound p states rows label bounds (Err (B.States f)) = (f.reason ≡ RowSyntax) × IsStatesBreak p states f.at
ChecksBound p states rows label bounds (Err (B.Rows f)) = (f.reason ≡ RowSyntax) × IsRowsBreak p states rows f.at
ChecksBound p states rows label bounds (Err (B.Bounds f)) = (f.reason ≡ RowSyntax) × IsBoundsBreak p states rows bounds f.at
ChecksBound p states rows label bounds (Err (B.Memory e)) = Unit {0}

-- the same for rows that are read
abbrev pub ChecksValues : Process → ReadRows → ℕ → List ℕ → Result BoundVerdict BoundRefused → Type 0
ChecksValues p r label bounds (Ok v) = (bs : List Fraction) × AreBounds (length r.states) bounds bs × JudgesBounds p r label bs v
ChecksValues p r label bounds (Err (B.States f)) = ⊥
ChecksValues p r label bounds (Err (B.Rows f)) = ⊥
ChecksValues p r label bounds (Err (B.Bounds f)) = (f.reason ≡ RowSyntax) × ReadsBounds (length r.states) bounds (Err f.at)
ChecksValues p r label bounds (Err (B.Memory e)) = Unit {0}

-- The files hold rows of the process, and for each listed state a bound. For every number of steps and every strategy, the probability
-- of reaching a state where the label is true, from a listed state, is at most its bound: over the rows, and over the process's
-- own choices. So are the greatest probabilities.
pub record IsCertified (p : Process) (states rows : List ℕ) (label : ℕ) (bounds : List ℕ) : Type 0 where
  pub read : ReadRows
  pub values : List Fraction
  pub rows_are : AreRowFiles p states rows read
  pub bounds_are : AreBounds (length read.states) bounds values
  pub own : AreRows p read
  pub bounded : AreBest (length read.states) (is_target p label read.states) read.rows (bound_at values)
  pub own_bounded : (n k : ℕ) → k < length read.states → AtMost (best_in p (is_labelled p label) n (values_at read.states k)) (bound_at values k)
  pub strategic : (s : Strategy) (n k : ℕ) → k < length read.states → AtMost (reached s (is_target p label read.states) read.rows n [] k) (bound_at values k)
  pub own_strategic : (s : OwnStrategy) (n k : ℕ) → k < length read.states → AtMost (reached_in s p (is_labelled p label) n [] (values_at read.states k)) (bound_at values k)
