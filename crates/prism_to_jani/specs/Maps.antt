-- How the states and labels of a PRISM file go with those of the JANI file that it is translated to, as data. (This project's own rule.)
use Rattle.std.specs.Prelude.{◌≡◌, ◌+◌, [], map, length, Some}
use Rattle.std.specs.List.{AllByRecursion as Each}
use Rattle.std.specs.Option.{IfSome}
use Rattle.process_core.specs.Process.{under}
use Rattle.process_core.specs.Ready.{Name}
use Rattle.process_core.specs.Instance.{Valuation}
use Rattle.process_core.specs.Steps.{IsProcess, Process, seen_by}
use Rattle.choice_laws.specs.Columns.{counting}
use Rattle.carry_maps.specs.declared.map.CarryMap.{CarryMap}
use Rattle.carry_maps.specs.declared.map.Column.TheVariants.{Variable}
use Rattle.carry_maps.specs.declared.map.LabelPair.{LabelPair}
use Rattle.carry_maps.specs.Maps.{AreSameBy, HasLabels}
use Rattle.carry_maps.specs.Instances.{IsMapOf}
use Rattle.prism_tree.specs.Syntax as prism
use Rattle.prism_names.specs.Flat.{flat}
use Rattle.prism_print.specs.Same as source
use Rattle.prism_flat.specs.Process as prism_process
use Rattle.prism_flat.specs.Scene as prism_scene
use Rattle.jani_tree.specs.Syntax as jani
use Rattle.jani_tree.specs.Form.{FileShort, IsShortName}
use Rattle.jani_tree.specs.Places.{bare_file}
use Rattle.jani_meaning.specs.Elements.{lasting}
use Rattle.jani_meaning.specs.Process as jani_process
use Rattle.name_table.specs.Asks.{actions, new_names, variables}
use Rattle.name_table.specs.Correspond.{Correspond}
use Rattle.jani_translation.specs.Translated.{translated}
use Rattle.jani_translation_laws.specs.SameMeaning.{label_in}
use Rattle.prism_to_jani.specs.Promise.{IsJaniOf, state_in}
use Rattle.jani_tree.specs.Syntax.{element_names}

-- ---- the map
-- an action with its new name
abbrev pub pair_by : (Name → Name) → Name → LabelPair
pair_by new a = record { prism = a; jani = Some (new a) }

-- The map of a file whose formulas and copies of modules are written out: each element has one location, which is no column here, each column
-- is the variable of its number, and each action goes with its new name.
pub record IsMapToJani (file : prism.File) (m : CarryMap) : Type 0 where
  pub locations : m.locations ≡ map (λ a. 1) (element_names (translated file))
  pub columns : m.columns ≡ map Variable (counting 0 (length (variables file)))
  pub labels : m.labels ≡ map (pair_by (new_names file).action) (actions file)

-- ---- what it is of
-- this is stepped of a PRISM file under a valuation: what is seen of the file, with a column for each of its variables
pub record IsSteppedPrism (file : prism.File) (v : Valuation) (d : Process) : Type 0 where
  pub seen : seen_by d ≡ under (prism_process.model file) v
  pub columns : length d.columns ≡ length (prism_scene.scene file v).columns

-- and of a JANI file: with a column for the location of each element, and for each variable that is not transient
pub record IsSteppedJani (file : jani.File) (w : Valuation) (e : Process) : Type 0 where
  pub seen : seen_by e ≡ under (jani_process.model file) w
  pub columns : length e.columns ≡ length (element_names file) + length (lasting file)

-- It is the map of whatever is stepped of the file and of the JANI file that it is translated to, places aside, by the maps of labels and
-- states with which these mean the same.
abbrev pub IsMapOfTranslation : Type 0
IsMapOfTranslation = (old : prism.File) (new : jani.File) → bare_file new ≡ bare_file (translated (flat old)) → (m : CarryMap) → IsMapToJani (flat old) m →
    (v w : Valuation) (d e : Process) → IsSteppedPrism old v d → IsSteppedJani new w e → IsMapOf m d e (label_in old) (state_in new)

-- So under valuations that correspond, where there is no instance fault, the two are the same by the map.
abbrev pub AreSameByMap : Type 0
AreSameByMap = (old : prism.File) (new : jani.File) → IsJaniOf old new → (m : CarryMap) → IsMapToJani (flat old) m →
    (v w : Valuation) → Correspond old new v w → (prism_process.model old).faults v ≡ [] →
    (d e : Process) → IsSteppedPrism old v d → IsSteppedJani new w e → IsProcess d → AreSameBy m d e

-- Each action has a label, and no two have the same.
abbrev pub MapHasLabels : Type 0
MapHasLabels = (file : prism.File) (m : CarryMap) → IsMapToJani file m → HasLabels m.labels

-- Each label is the name of an action of the JANI file, so it is short where the names of that are.
abbrev pub MapIsShort : Type 0
MapIsShort = (file : prism.File) (new : jani.File) → bare_file new ≡ bare_file (translated file) → (m : CarryMap) → IsMapToJani file m → FileShort new →
    Each (λ p. IfSome p.jani IsShortName) m.labels

-- Files that are the same but for their places have one map.
abbrev pub MapPlacesAside : Type 0
MapPlacesAside = (f g : prism.File) (m : CarryMap) → source.bare_file f ≡ source.bare_file g → IsMapToJani f m → IsMapToJani g m
