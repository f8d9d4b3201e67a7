-- The parts of a file's map, as the code makes them.
use Rattle.std.specs.Prelude.{◌≡◌, List, ◌++◌, length, map}
use Rattle.std.specs.List.{flat_map, zip}
use Rattle.process_core.specs.Instance.{only_if}
use Rattle.carry_maps.specs.declared.map.Column.{Column}
use Rattle.carry_maps.specs.declared.map.Column.TheVariants as at
use Rattle.carry_maps.specs.declared.map.CarryMap.{CarryMap}
use Rattle.carry_maps.specs.declared.map.LabelPair.{LabelPair}
use Rattle.jani_tree.specs.Syntax.{File}
use Rattle.jani_meaning.specs.Elements as jani
use Rattle.name_table.specs.declared.entry.Entry.{Entry}
use Rattle.name_table.specs.PrismAsks.{NewNames}
use Rattle.prism_translation.specs.Elements.{Element, Lasting, at_home, elements, has_several, shared}
use Rattle.prism_translation.specs.Modules.{actions}
use Rattle.prism_targets.specs.declared.targets.Target.{Target}
use Rattle.jani_to_prism.specs.LineParts.{old_of}
use Rattle.jani_to_prism.specs.Maps.{pair_of}

-- ---- columns
abbrev pub variable_columns : List Lasting → List Column
variable_columns xs = map (λ x. at.Variable x.number) xs

abbrev pub location_columns : Element → List Column
location_columns el = only_if (has_several el) (at.Location el.number)

-- of a module where these are at home
abbrev pub columns_at : List Lasting → Element → List Column
columns_at xs el = location_columns el ++ variable_columns xs

abbrev pub element_columns : File → Element → List Column
element_columns file el = columns_at (at_home file el.number) el

abbrev pub file_columns : File → List Column
file_columns file = variable_columns (shared file) ++ flat_map (element_columns file) (elements file)

-- ---- labels
abbrev pub pair_with : Entry → Target → LabelPair
pair_with e t = record { prism = e.name; jani = old_of t }

abbrev pub pairs_with : List Entry → List Target → List LabelPair
pairs_with es ts = map (λ p. pair_with p.0 p.1) (zip es ts)

-- ---- the whole, under new names
pub record IsMapBy (names : NewNames) (file : File) (m : CarryMap) : Type 0 where
  pub locations : m.locations ≡ map (λ a. length a.locations) (jani.elements file)
  pub columns : m.columns ≡ file_columns file
  pub labels : m.labels ≡ map pair_of (actions file names)
