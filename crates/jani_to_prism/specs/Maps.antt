-- How states and labels go between a JANI file and the PRISM file that it is translated to, as data; and what this map keeps (this
-- project's own rule).
use Rattle.std.specs.Prelude.{◌≡◌, ◌+◌, ◌-◌, ℕ, List, [], length, map, false, if◌then◌else◌, nat_eq, nat_lt}
use Rattle.std.specs.List.{list_any}
use Rattle.process_core.specs.Instance.{Valuation}
use Rattle.process_core.specs.Process.{under}
use Rattle.process_core.specs.Ready.{Name}
use Rattle.process_core.specs.Steps.{IsProcess, Process, seen_by}
use Rattle.process_texts.specs.Texts.{header_text}
use Rattle.carry_maps.specs.declared.map.CarryMap.{CarryMap}
use Rattle.carry_maps.specs.declared.map.Column.{Column}
use Rattle.carry_maps.specs.declared.map.Column.TheVariants.{Location, Variable}
use Rattle.carry_maps.specs.declared.map.LabelPair.{LabelPair}
use Rattle.carry_maps.specs.Maps.{AreSameBy}
use Rattle.carry_maps.specs.Instances.{IsMapOf}
use Rattle.prism_tree.specs.Syntax as prism
use Rattle.prism_flat.specs.Process as prism_process
use Rattle.prism_flat.specs.Scene as prism_scene
use Rattle.prism_print.specs.Same.{bare_file}
use Rattle.jani_tree.specs.Syntax.{File, element_names}
use Rattle.jani_meaning.specs.Elements.{elements, lasting}
use Rattle.jani_meaning.specs.Process as jani_process
use Rattle.name_table.specs.Correspond.{Correspond}
use Rattle.prism_translation.specs.Modules.{Action, actions}
use Rattle.prism_translation.specs.Names.{new_names}
use Rattle.prism_translation.specs.StateLaws.{columns, old_label, state_of}
use Rattle.prism_translation.specs.Targets.{old_name}
use Rattle.prism_translation.specs.Translated.{translated}
use Rattle.jani_to_prism.specs.Promise.{IsPrismOf}

-- ---- the map
-- the column of this number in a JANI file of so many elements, whose locations come first
abbrev pub column_at : ℕ → ℕ → Column
column_at n j = if nat_lt j n then Location j else Variable (j - n)

-- an action, and the old name of what it is made for, which may be none
abbrev pub pair_of : Action → LabelPair
pair_of t = record { prism = t.name; jani = old_name t.target }

-- The number of locations of each element, for each column of the PRISM file the one of the JANI file that it stands for, and each action with
-- its label, in the order of their entries.
pub record IsMapToPrism (file : File) (m : CarryMap) : Type 0 where
  pub locations : m.locations ≡ map (λ a. length a.locations) (elements file)
  pub columns : m.columns ≡ map (column_at (length (element_names file))) (columns file)
  pub labels : m.labels ≡ map pair_of (actions file (new_names file))

-- ---- what it is of
-- this is stepped of a PRISM file under a valuation: what is seen of the file, with a column for each of its variables
pub record IsSteppedPrism (file : prism.File) (v : Valuation) (d : Process) : Type 0 where
  pub seen : seen_by d ≡ under (prism_process.model file) v
  pub columns : length d.columns ≡ length (prism_scene.scene file v).columns

-- and of a JANI file: with a column for the location of each element, and for each variable that is not transient
pub record IsSteppedJani (file : File) (w : Valuation) (e : Process) : Type 0 where
  pub seen : seen_by e ≡ under (jani_process.model file) w
  pub columns : length e.columns ≡ length (element_names file) + length (lasting file)

-- It is the map of whatever is stepped of the file and of the PRISM file that it is translated to, places aside, by the maps of labels and
-- states with which these mean the same; each action of a choice has its pair.
abbrev pub IsMapOfTranslation : Type 0
IsMapOfTranslation = (old : File) (new : prism.File) → bare_file new ≡ bare_file (translated old) → (m : CarryMap) → IsMapToPrism old m →
    (v w : Valuation) (d e : Process) → IsSteppedPrism new v d → IsSteppedJani old w e → IsMapOf m d e (old_label old) (state_of old)

-- So under valuations that correspond, where there is no instance fault, the two are the same by the map.
abbrev pub AreSameByMap : Type 0
AreSameByMap = (old : File) (new : prism.File) → IsPrismOf old new → (m : CarryMap) → IsMapToPrism old m →
    (v w : Valuation) → Correspond new old v w → (prism_process.model new).faults v ≡ [] →
    (d e : Process) → IsSteppedPrism new v d → IsSteppedJani old w e → IsProcess d → AreSameBy m d e

-- ---- names of columns
abbrev pub column_names : prism.File → Valuation → List Name
column_names file v = map (λ c. c.name) (prism_scene.scene file v).columns

-- those of the PRISM file are identifiers, so no line ends in the header that lists them
abbrev pub HeaderIsLine : Type 0
HeaderIsLine = (old : File) (new : prism.File) → bare_file new ≡ bare_file (translated old) → (v : Valuation) → list_any (nat_eq 10) (header_text (column_names new v)) ≡ false
