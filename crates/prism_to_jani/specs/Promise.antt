-- What is promised of the JANI file that a PRISM file is translated to (this project's own rule).
use Rattle.std.specs.Prelude.{◌≡◌, [], ◌++◌}
use Rattle.process_core.specs.Instance.{Valuation}
use Rattle.process_core.specs.Process.{SameAt, under}
use Rattle.process_core.specs.Ready.{Values}
use Rattle.prism_tree.specs.Syntax as prism
use Rattle.prism_names.specs.Flat.{flat}
use Rattle.prism_flat.specs.Process as prism_process
use Rattle.jani_tree.specs.Syntax as jani
use Rattle.jani_tree.specs.Back.{IsWritable}
use Rattle.jani_tree.specs.Places.{bare_file}
use Rattle.jani_check.specs.Faults.{IsChecked}
use Rattle.jani_meaning.specs.Process as jani_process
use Rattle.name_table.specs.Correspond.{Correspond}
use Rattle.jani_translation.specs.Translated.{translated}
use Rattle.jani_translation_laws.specs.SameMeaning.{homes, label_in, MeansTheSame}
use Rattle.prism_to_jani.specs.Names.{AreJaniNames}

-- ---- the map of states
-- a state of the JANI file for one of the PRISM file: each element at its one location, and then the same values
abbrev pub state_in : jani.File → Values → Values
state_in new s = homes new ++ s

-- Under valuations that correspond, where there is no instance fault, the map of states is one to one and onto, and what is seen at a state
-- is seen where it leads, each label under its new name.
abbrev pub JaniStatesOneToOne : prism.File → jani.File → Type 0
JaniStatesOneToOne old new = (v w : Valuation) → Correspond old new v w → (prism_process.model old).faults v ≡ [] →
    SameAt (under (prism_process.model old) v) (under (jani_process.model new) w) (label_in old) (state_in new)

-- ---- the promise
-- It has no fault of names, types or the profile, and the form that is asked of a file that is written. Its shape is fixed, place
-- by place: that of the file with formulas and copies of modules written out. Names go one to one, and so do states. And it means
-- the same process.
pub record IsJaniOf (old : prism.File) (new : jani.File) : Type 0 where
  pub clean : IsChecked new
  pub writable : IsWritable new
  pub shape : bare_file new ≡ bare_file (translated (flat old))
  pub names : AreJaniNames old new
  pub states : JaniStatesOneToOne old new
  pub same : MeansTheSame old new

-- All of it holds of each tree that is the same but for its places.
abbrev pub PlacesAside : Type 0
PlacesAside = (old : prism.File) (f g : jani.File) → bare_file f ≡ bare_file g → IsJaniOf old f → IsJaniOf old g
