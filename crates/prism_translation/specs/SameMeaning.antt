-- What a translated file means, as statements: what the contract of this crate's empty function promises. The whole of them is
-- that both files mean the same process (this project's own rule).
use Rattle.std.specs.Prelude.{◌↔◌, ◌≡◌, ℕ, map, true, unwrap_or, slice_get}
use Rattle.process_core.specs.Process.{IsIn, EquallyOften, SameProcess, choice_image}
use Rattle.process_core.specs.Ready.{Values, Name}
use Rattle.process_core.specs.declared.data.FaultKind.{FaultKind}
use Rattle.process_core.specs.declared.data.FaultKind.TheVariants.{ConstUndef, BoundUndef, EmptyRange, InitUndef, InitOutside}
use Rattle.process_core.specs.Instance.{Valuation, Fault, fault_of, Column, domain_at}
use Rattle.prism_flat.specs.Scene as prism_scene
use Rattle.prism_flat.specs.Process as prism_process
use Rattle.jani_tree.specs.Syntax.{File}
use Rattle.jani_meaning.specs.Scene as jani_scene
use Rattle.jani_meaning.specs.Process as jani_process
use Rattle.name_table.specs.PrismAsks.{value_name}
use Rattle.prism_translation.specs.Targets.{targets}
use Rattle.prism_translation.specs.Names.{new_names}
use Rattle.prism_translation.specs.Modules.{actions}
use Rattle.prism_translation.specs.Translated.{translated}
use Rattle.prism_translation.specs.StateLaws.{columns, state_of, old_label}
use Rattle.prism_translation.specs.Sound.{IsConstant, GivesAlike, FileIsSound, MarksAreSound, EdgesPayAlike}

-- where a fault stands in the file: at the column that its column is
abbrev pub column_at : File → ℕ → ℕ
column_at file i = unwrap_or (slice_get (columns file) i) 0

abbrev pub placed_by : File → FaultKind → ℕ → Fault
placed_by file ConstUndef i = fault_of ConstUndef i
placed_by file BoundUndef i = fault_of BoundUndef (column_at file i)
placed_by file EmptyRange i = fault_of EmptyRange (column_at file i)
placed_by file InitUndef i = fault_of InitUndef (column_at file i)
placed_by file InitOutside i = fault_of InitOutside (column_at file i)

abbrev pub placed : File → Fault → Fault
placed file f = placed_by file f.kind f.place

-- there is an action for each target, in order
abbrev pub OneActionEach : File → Type 0
OneActionEach file = map (λ t. t.target) (actions file (new_names file)) ≡ targets file

-- each constant has the value that it has under its new name in the translated file
abbrev pub SameConstants : File → Type 0
SameConstants file = FileIsSound file → (v w : Valuation) → GivesAlike file v w → (k : ℕ) (x : Name) → IsConstant file k x →
    prism_scene.constant (translated file) v (value_name file (new_names file) k x) ≡ jani_scene.constant file w x

-- the columns have the ranges of those columns of the file that they are
abbrev pub SameRanges : File → Type 0
SameRanges file = FileIsSound file → (v w : Valuation) → GivesAlike file v w →
    map (λ (c : Column). c.domain) (prism_scene.scene (translated file) v).columns ≡ map (domain_at (jani_scene.scene file w).columns) (columns file)

-- Each state of the translated file goes to a state of the file, each state of the file comes of one, and of one alone.
abbrev pub StatesGoTo : File → Type 0
StatesGoTo file = FileIsSound file → (v w : Valuation) → GivesAlike file v w → (s : Values) → (prism_process.model (translated file)).is_state v s ≡ true →
    (jani_process.model file).is_state w (state_of file s) ≡ true

abbrev pub StatesAreThese : File → Type 0
StatesAreThese file = FileIsSound file → (v w : Valuation) → GivesAlike file v w → (u : Values) → (jani_process.model file).is_state w u ≡ true →
    (s : Values) × ((prism_process.model (translated file)).is_state v s ≡ true) × (state_of file s ≡ u)

abbrev pub StatesDiffer : File → Type 0
StatesDiffer file = (v : Valuation) (s t : Values) → (prism_process.model (translated file)).is_state v s ≡ true → (prism_process.model (translated file)).is_state v t ≡ true →
    state_of file s ≡ state_of file t → s ≡ t

-- and the same are initial
abbrev pub InitialAlike : File → Type 0
InitialAlike file = FileIsSound file → (v w : Valuation) → GivesAlike file v w → (s : Values) → (prism_process.model (translated file)).is_state v s ≡ true →
    (prism_process.model (translated file)).is_initial v s ≡ (jani_process.model file).is_initial w (state_of file s)

-- the instance faults are the same, each at the column that its column is
abbrev pub FaultsAlike : File → Type 0
FaultsAlike file = FileIsSound file → (v w : Valuation) → GivesAlike file v w → (f : Fault) →
    IsIn f (map (placed file) ((prism_process.model (translated file)).faults v)) ↔ IsIn f ((jani_process.model file).faults w)

-- the marks are the same
abbrev pub MarksAlike : File → Type 0
MarksAlike file = FileIsSound file → MarksAreSound file → (v w : Valuation) → GivesAlike file v w → (s : Values) → (prism_process.model (translated file)).is_state v s ≡ true →
    (prism_process.model (translated file)).marks v s ≡ (jani_process.model file).marks w (state_of file s)

-- At a state of the translated file each choice occurs as often as in the file at the state that goes with it: with the old
-- name of its action as its label, the same probabilities and rewards, and the states that go with its targets; or the same
-- kinds of faults.
abbrev pub ChoicesOften : File → Type 0
ChoicesOften file = FileIsSound file → (v w : Valuation) → GivesAlike file v w → (s : Values) → (prism_process.model (translated file)).is_state v s ≡ true → EdgesPayAlike file w (state_of file s) →
    EquallyOften (map (choice_image (old_label file) (state_of file)) ((prism_process.model (translated file)).choices v s))
    ((jani_process.model file).choices w (state_of file s))

-- ---- the whole
-- Valuations of the translated file and of the file that correspond: each constant without an expression is given the same value
-- under its new name, and at the states of the file the destinations of an edge pay the same.
pub record AreAlike (file : File) (v w : Valuation) : Type 0 where
  pub gives : GivesAlike file v w
  pub pays : (u : Values) → (jani_process.model file).is_state w u ≡ true → EdgesPayAlike file w u

-- Under such valuations the instance faults are the same; and, where there are none, the states of the translated file go one to
-- one onto those of the file, the same are initial, with the same marks; and each choice occurs equally often.
abbrev pub SoundMeansTheSame : File → Type 0
SoundMeansTheSame file = FileIsSound file → MarksAreSound file →
    SameProcess (prism_process.model (translated file)) (jani_process.model file) (AreAlike file) (placed file) (old_label file) (state_of file)
