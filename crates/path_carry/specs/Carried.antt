-- The path that a path is carried to, and where there is none. (This project's own rule.)
use Rattle.std.specs.Prelude.{◌≡◌, ℕ, ◌+◌, List, [], ◌∷◌, map, length, Bool, ◌&&◌, Option, Some, None, Result, Ok, Err, if◌then◌else◌}
use Rattle.std.specs.List.{find, list_any}
use Rattle.frac_core.specs.Fraction.{Fraction}
use Rattle.bridge_io.specs.declared.reason.Reason.TheVariants.{RowSyntax}
use Rattle.bridge_io.specs.declared.reason.Refused.{Refused}
use Rattle.bridge_io.specs.declared.reason.Refused.TheVariants as R
use Rattle.process_core.specs.Process.{Choice}
use Rattle.process_core.specs.Bounds.{Excess, IsWide, IsTooMany}
use Rattle.process_core.specs.Ready.{Values, Name, same_label}
use Rattle.process_core.specs.Steps.{Process}
use Rattle.process_core.specs.declared.data.State.{State}
use Rattle.row_check.specs.declared.data.ReadPath.{ReadPath}
use Rattle.row_check.specs.Forms.{IsPathFile, IsPathBreak}
use Rattle.process_core.specs.Paths.{leads_to}
use Rattle.carry_maps.specs.declared.map.LabelPair.{LabelPair}
use Rattle.carry_maps.specs.declared.map.CarryMap.{CarryMap}
use Rattle.path_carry.specs.declared.data.Carried.{Carried}
use Rattle.path_carry.specs.declared.data.Carried.TheVariants as C
use Rattle.carry_maps.specs.Maps.{jani_state, prism_state, jani_label, has_pair, candidates, has_candidate}
use Rattle.path_carry.specs.Texts.{path_text}

abbrev pub state : Values → State
state s = record { values = s }

-- ---- which line isn't carried: the first whose state is none, or whose label is none
-- the lines of steps, numbered from `k`
abbrev pub lost_step : (Values → Bool) → (Option Name → Bool) → ℕ → List State → List (Option Name) → Option ℕ
lost_step is has k (s ∷ ss) (l ∷ ls) = if has l && is s.values then lost_step is has (k + 1) ss ls else Some k
lost_step is has k ss ls = None

abbrev pub lost_from : (Values → Bool) → (Option Name → Bool) → List State → List (Option Name) → Option ℕ
lost_from is has [] ls = None
lost_from is has (s ∷ ss) ls = if is s.values then lost_step is has 1 ss ls else Some 0

abbrev pub lost_line : (Values → Bool) → (Option Name → Bool) → ReadPath → Option ℕ
lost_line is has path = lost_from is has path.states path.labels

-- ---- to JANI
abbrev pub jani_states : CarryMap → ℕ → List State → List State
jani_states m n ss = map (λ s. state (jani_state m n s.values)) ss

abbrev pub jani_path : CarryMap → ℕ → ReadPath → ReadPath
jani_path m n path = record { states = jani_states m n path.states; labels = map (jani_label m.labels) path.labels }

abbrev pub CarriedToJani : Process → Process → CarryMap → ReadPath → Carried → Type 0
CarriedToJani prism jani m path (C.Path text) = (lost_line prism.is_state (has_pair m.labels) path ≡ None) × (text ≡ path_text jani.columns (jani_path m (length jani.columns) path))
CarriedToJani prism jani m path (C.No k) = lost_line prism.is_state (has_pair m.labels) path ≡ Some k
CarriedToJani prism jani m path (C.Wide k) = ⊥
CarriedToJani prism jani m path (C.TooMany k) = ⊥

-- ---- to PRISM
abbrev pub first_of : List (Option Name) → Option Name
first_of [] = None
first_of (l ∷ ls) = l

abbrev pub label_or : Option Name → Option (Choice Name Fraction Values) → Option Name
label_or l None = l
label_or l (Some c) = c.label

-- the label of the first good choice whose label is one of these and that leads to the state; else the first of these
abbrev pub chosen : List (Option Name) → List (Choice Name Fraction Values) → Values → Option Name
chosen ls cs t = label_or (first_of ls) (find (λ c. list_any (same_label c.label) ls && leads_to t c.outcome) cs)

-- for steps along these states with these labels
abbrev pub chosen_labels : Process → List LabelPair → List State → List (Option Name) → List (Option Name)
chosen_labels prism ps (s ∷ t ∷ ss) (l ∷ ls) = chosen (candidates ps l) (prism.choices s.values) t.values ∷ chosen_labels prism ps (t ∷ ss) ls
chosen_labels prism ps ss ls = []

-- what passes a bound at a state from which a step is taken, the first of them, numbered from `k`
abbrev pub excess_at : ℕ → Option Excess → Option Carried → Option Carried
excess_at k None later = later
excess_at k (Some IsWide) later = Some (C.Wide k)
excess_at k (Some IsTooMany) later = Some (C.TooMany k)

abbrev pub first_excess : Process → ℕ → List State → List (Option Name) → Option Carried
first_excess prism k (s ∷ ss) (l ∷ ls) = excess_at k (prism.excess s.values) (first_excess prism (k + 1) ss ls)
first_excess prism k ss ls = None

abbrev pub prism_states : CarryMap → List State → List State
prism_states m us = map (λ u. state (prism_state m u.values)) us

abbrev pub prism_path : Process → CarryMap → ReadPath → ReadPath
prism_path prism m path = record { states = prism_states m path.states; labels = chosen_labels prism m.labels (prism_states m path.states) path.labels }

-- nothing is lost, and this passes a bound first
abbrev pub Passes : Process → Process → CarryMap → ReadPath → Option Carried → Type 0
Passes jani prism m path o = (lost_line jani.is_state (has_candidate m.labels) path ≡ None) × (first_excess prism 0 (prism_states m path.states) path.labels ≡ o)

abbrev pub CarriedToPrism : Process → Process → CarryMap → ReadPath → Carried → Type 0
CarriedToPrism jani prism m path (C.Path text) = Passes jani prism m path None × (text ≡ path_text prism.columns (prism_path prism m path))
CarriedToPrism jani prism m path (C.No k) = lost_line jani.is_state (has_candidate m.labels) path ≡ Some k
CarriedToPrism jani prism m path (C.Wide k) = Passes jani prism m path (Some (C.Wide k))
CarriedToPrism jani prism m path (C.TooMany k) = Passes jani prism m path (Some (C.TooMany k))

-- ---- from the bytes of a file: what its path is carried to, or the first line that breaks the form
abbrev pub CarriesFile : (ReadPath → Carried → Type 0) → Process → List ℕ → Result Carried Refused → Type 0
CarriesFile Is p bytes (Ok c) = (path : ReadPath) × IsPathFile p bytes path × Is path c
CarriesFile Is p bytes (Err (R.At f)) = (f.reason ≡ RowSyntax) × IsPathBreak p bytes f.at
CarriesFile Is p bytes (Err (R.Memory e)) = Unit {0}
