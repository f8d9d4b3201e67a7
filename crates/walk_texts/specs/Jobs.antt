-- How a job that shows a state or walks ends: what it writes, or why it does not begin. (This project's own rule.)
use Rattle.std.specs.Prelude.{◌≡◌, ℕ, Bool, true, false, IsTrue, List, [], length, Option, Some, None}
use Rattle.std.specs.List.{All, list_any}
use Rattle.process_core.specs.Bounds.{Excess, IsWide}
use Rattle.process_core.specs.Answers.{only_wide}
use Rattle.process_core.specs.Ready.{Values}
use Rattle.process_core.specs.Steps.{Process}
use Rattle.process_core.specs.Paths.{IsPath}
use Rattle.process_core.specs.declared.data.State.{State}
use Rattle.process_texts.specs.Given.{is_wide_value}
use Rattle.process_texts.specs.States.{SpellsState}
use Rattle.step_sim.specs.Walks.{IsGivenWalk}
use Rattle.step_sim.specs.Words.{IsWalkOfSeed}
use Rattle.step_sim.specs.Paths.{moves}
use Rattle.step_sim.specs.declared.walk.Step.{Step}
use Rattle.step_sim.specs.declared.walk.Stop.{Stop}
use Rattle.step_sim.specs.declared.walk.Stop.TheVariants as S
use Rattle.step_sim.specs.declared.walk.Walk.{Walk}
use Rattle.walk_texts.specs.Lines.{show_text, path_text}
use Rattle.walk_texts.specs.Stops.{excess_line, stop_line}
use Rattle.walk_texts.specs.declared.report.Report.{Report}
use Rattle.walk_texts.specs.declared.report.Report.TheVariants as R
use Rattle.walk_texts.specs.declared.start.Start.{Start}
use Rattle.walk_texts.specs.declared.start.Start.TheVariants.{At, Nowhere, Wide}

-- The word spells this state of the process, its numbers within the bound.
pub record IsStateOf (p : Process) (w : List ℕ) (s : Values) : Type 0 where
  pub spelled : SpellsState w s
  pub narrow : list_any is_wide_value s ≡ false
  pub state : IsTrue (p.is_state s)

-- the state that a word is, or none where it is no state of the process
abbrev pub ReadsStateOf : Process → List ℕ → Option State → Type 0
ReadsStateOf p w (Some s) = IsStateOf p w s.values
ReadsStateOf p w None = (s : Values) → IsStateOf p w s → ⊥

-- ---- show
-- the first of: a wide guard, too many, every other wide value, those of marks among them
abbrev pub excess_or : Bool → Option Excess → Option Excess
excess_or wide (Some e) = Some e
excess_or wide None = only_wide wide

abbrev pub show_excess : Process → Values → Option Excess
show_excess p s = excess_or (p.has_wide_mark s) (p.excess s)

-- What is shown of the state that a word is: nothing where it is no state; nothing but why, where something passes a bound there;
-- else its text.
abbrev pub IsShown : Process → List ℕ → Report → Type 0
IsShown p w (R.Done text) = (s : Values) × IsStateOf p w s × (show_excess p s ≡ None) × (text ≡ show_text p s)
IsShown p w (R.Stopped path line) = ⊥
IsShown p w R.NoStart = (s : Values) → IsStateOf p w s → ⊥
IsShown p w (R.Excess path line) = (s : Values) × (e : Excess) × IsStateOf p w s × (show_excess p s ≡ Some e) × (path ≡ []) × (line ≡ excess_line 0 e)

-- ---- where a walk starts
-- The word is no state of the process, or one that is not initial.
pub data IsNoStart (p : Process) (w : List ℕ) : Type 0 where
  no_state : ((s : Values) → IsStateOf p w s → ⊥) → IsNoStart p w
  not_initial : (s : Values) → IsStateOf p w s → p.has_wide_initial s ≡ false → p.is_initial s ≡ false → IsNoStart p w

-- A walk starts at the first state where none is named, else at the one that is, if it is initial.
abbrev pub IsStart : Process → Option (List ℕ) → Start → Type 0
IsStart p None (At s) = p.first ≡ Some s.values
IsStart p None Nowhere = p.first ≡ None
IsStart p None Wide = ⊥
IsStart p (Some w) (At s) = IsStateOf p w s.values × (p.has_wide_initial s.values ≡ false) × (p.is_initial s.values ≡ true)
IsStart p (Some w) Nowhere = IsNoStart p w
IsStart p (Some w) Wide = (s : Values) × IsStateOf p w s × (p.has_wide_initial s ≡ true)

-- ---- walks
-- how a walk ends by why it goes no further, of its text and the line for that
abbrev pub ended : List ℕ → List ℕ → Stop → Report
ended path line S.Done = R.Done path
ended path line S.Deadlock = R.Done path
ended path line (S.NoChoice i) = R.Stopped path line
ended path line (S.NoBranch j) = R.Stopped path line
ended path line (S.Faulty bad) = R.Stopped path line
ended path line S.Wide = R.Excess path line
ended path line S.TooMany = R.Excess path line

-- what is written of a walk
abbrev pub report_of : Process → Walk → Report
report_of p w = ended (path_text p w.first.values w.steps) (stop_line (length w.steps) w.stop) w.stop

-- the numbers in the states of a walk are within the bound of fractions
abbrev pub IsNarrowStep : Step → Type 0
IsNarrowStep t = list_any is_wide_value t.target.values ≡ false

pub record IsNarrowWalk (w : Walk) : Type 0 where
  pub first : list_any is_wide_value w.first.values ≡ false
  pub steps : All IsNarrowStep w.steps

-- From the start on there is such a walk, within the bound, and this is written of it.
abbrev pub ReportsWalk : Process → (Values → Walk → Type 0) → Start → Report → Type 0
ReportsWalk p Is (At s) r = (w : Walk) × Is s.values w × (r ≡ report_of p w) × IsNarrowWalk w
ReportsWalk p Is Nowhere r = r ≡ R.NoStart
ReportsWalk p Is Wide r = r ≡ R.Excess [] (excess_line 0 IsWide)

-- What a walk of some kind from the named state, or from the first one, ends with.
pub record IsWalked (p : Process) (Is : Values → Walk → Type 0) (from : Option (List ℕ)) (r : Report) : Type 0 where
  pub start : Start
  pub starts : IsStart p from start
  pub reports : ReportsWalk p Is start r

-- the walk from a state along pairs of numbers; its labels and states are a path of the process
pub record IsWalkAlong (p : Process) (pairs : List (ℕ × ℕ)) (s : Values) (w : Walk) : Type 0 where
  pub starts : w.first.values ≡ s
  pub walk : IsGivenWalk p s pairs w.steps w.stop
  pub path : IsPath p s (moves w.steps)

abbrev pub IsWalkedAlong : Process → Option (List ℕ) → List (ℕ × ℕ) → Report → Type 0
IsWalkedAlong p from pairs r = IsWalked p (IsWalkAlong p pairs) from r

-- the walk of so many steps from a state along the words of a seed; its labels and states are a path of the process
pub record IsWalkBySeed (p : Process) (seed steps : ℕ) (s : Values) (w : Walk) : Type 0 where
  pub walk : IsWalkOfSeed p s steps seed w
  pub path : IsPath p s (moves w.steps)

abbrev pub IsWalkedBySeed : Process → Option (List ℕ) → ℕ → ℕ → Report → Type 0
IsWalkedBySeed p from seed steps r = IsWalked p (IsWalkBySeed p seed steps) from r
