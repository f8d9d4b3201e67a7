-- What is seen of a process by whoever steps it, and the laws of it.
-- (PRISM manual, "The PRISM Language"; jani-model specification, "Models" for type "mdp".)
use Rattle.std.specs.Prelude.{◌≡◌, ◌↔◌, ℕ, ◌≤◌, ◌<◌, List, length, Bool, true, false, IsTrue, Option, Some, None, slice_get}
use Rattle.std.specs.Option.{MatchOption}
use Rattle.std.specs.List.{All}
use Rattle.frac_core.specs.Fraction.{Fraction}
use Rattle.process_core.specs.Process.{Choice}
use Rattle.process_core.specs.Process as core
use Rattle.process_core.specs.Ready.{Values, Name}
use Rattle.process_core.specs.Bounds.{Excess}
use Rattle.process_core.specs.Distribution.{IsProper}
use Rattle.process_core.specs.declared.data.Mark.{Mark}
use Rattle.process_core.specs.declared.data.Mark.TheVariants.{Truth, Number}
use Rattle.process_core.specs.declared.data.State.{State}

-- A process: the texts of its columns; the names of its marks, and how many of them are labels; which values are
-- states, and initial ones, and for which the test of that is wide; whether the model has an initial condition; the first
-- state, if it has none; and at a state its choices and marks in order, what passes a bound there, and whether a mark is wide.
pub record Process : Type 0 where
  pub columns : List Name
  pub mark_names : List Name
  pub labels : ℕ
  pub is_state : Values → Bool
  pub is_initial : Values → Bool
  pub has_wide_initial : Values → Bool
  pub has_condition : Bool
  pub first : Option Values
  pub choices : Values → List (Choice Name Fraction Values)
  pub excess : Values → Option Excess
  pub marks : Values → List Mark
  pub has_wide_mark : Values → Bool

abbrev pub is_truth : Mark → Bool
is_truth (Truth b) = true
is_truth (Number x) = false

-- Each state has a value for each column and a mark for each name, first the labels. Initial states are states, and the
-- initial test is wide of states alone. There is a first state exactly where the model has no initial condition, and it is the
-- one that is initial. The good choices of a state are distributions over states, and the others have a kind of fault.
pub record IsProcess (p : Process) : Type 0 where
  pub columns : (s : Values) → IsTrue (p.is_state s) → length s ≡ length p.columns
  pub marks : (s : Values) → IsTrue (p.is_state s) → length (p.marks s) ≡ length p.mark_names
  pub labels : p.labels ≤ length p.mark_names
  pub kinds : (s : Values) (i : ℕ) (m : Mark) → IsTrue (p.is_state s) → slice_get (p.marks s) i ≡ Some m → IsTrue (is_truth m) ↔ (i < p.labels)
  pub initial : (s : Values) → IsTrue (p.is_initial s) → IsTrue (p.is_state s)
  pub wide_initial : (s : Values) → IsTrue (p.has_wide_initial s) → IsTrue (p.is_state s)
  pub condition : (p.first ≡ None) ↔ IsTrue p.has_condition
  pub first : MatchOption p.first (Unit {0}) (λ f. (s : Values) → (IsTrue (p.is_initial s) ↔ (s ≡ f)) × (p.has_wide_initial s ≡ false))
  pub proper : (s : Values) → IsTrue (p.is_state s) → All (λ c. IsProper p.is_state c.outcome) (p.choices s)

abbrev pub values_of : State → Values
values_of s = s.values

-- what two models that mean the same have in common, of one that is stepped
abbrev pub seen_by : Process → core.Process Name Fraction Mark Values
seen_by p = record { is_state = p.is_state; is_initial = p.is_initial; marks = p.marks; choices = p.choices }
