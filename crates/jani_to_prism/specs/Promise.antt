-- What is promised of the PRISM file that a JANI file is translated to (this project's own rule).
use Rattle.std.specs.Prelude.{◌≡◌, []}
use Rattle.process_core.specs.Instance.{Valuation}
use Rattle.process_core.specs.Process.{SameAt, under}
use Rattle.prism_tree.specs.Syntax as prism
use Rattle.prism_flat.specs.Process as prism_process
use Rattle.prism_print.specs.Same.{bare_file}
use Rattle.prism_check.specs.Clean.{IsClean}
use Rattle.jani_tree.specs.Syntax as jani
use Rattle.jani_meaning.specs.Process as jani_process
use Rattle.name_table.specs.Correspond.{Correspond}
use Rattle.prism_translation.specs.StateLaws.{old_label, state_of}
use Rattle.prism_translation.specs.Translated.{translated}
use Rattle.prism_translation_laws.specs.SameMeaning.{MeansTheSame}
use Rattle.jani_to_prism.specs.Names.{ArePrismNames}

-- Under valuations that correspond, where there is no instance fault, the map `state_of` from the states of the PRISM file to those of the JANI
-- file is one to one and onto: it puts each column at the place of the one that it stands for, and elements without a column at their only
-- location. What is seen at a state is seen where it leads, each label under its old name.
abbrev pub PrismStatesOneToOne : jani.File → prism.File → Type 0
PrismStatesOneToOne old new = (v w : Valuation) → Correspond new old v w → (prism_process.model new).faults v ≡ [] →
    SameAt (under (prism_process.model new) v) (under (jani_process.model old) w) (old_label old) (state_of old)

-- It has no fault of names or types, and the form that is asked of a file that is printed. Its shape is fixed, place by place.
-- Names go one to one, and so do states. And it means the same process.
pub record IsPrismOf (old : jani.File) (new : prism.File) : Type 0 where
  pub clean : IsClean new
  pub shape : bare_file new ≡ bare_file (translated old)
  pub names : ArePrismNames old new
  pub states : PrismStatesOneToOne old new
  pub same : MeansTheSame old new

-- All of it holds of each tree that is the same but for its places.
abbrev pub PlacesAside : Type 0
PlacesAside = (old : jani.File) (f g : prism.File) → bare_file f ≡ bare_file g → IsPrismOf old f → IsPrismOf old g
