-- What the reader of properties reads in the JANI file that a PRISM model is translated to, with the value of the translated properties
-- (jani-model specification, version 1, "Properties"; that these are the translated ones is this project's own rule).
use Rattle.std.specs.Prelude.{◌≡◌, ◌≤◌, ◌<◌, ◌^◌, List, [], ◌++◌, map, length}
use Rattle.std.specs.List.{AllByRecursion as Each}
use Rattle.basics.specs.Options.{IfAny}
use Rattle.op_trees.specs.Tree.{bare}
use Rattle.prism_names.specs.Flat.{flat}
use Rattle.prism_check.specs.Checked.{Checked, IsChecked}
use Rattle.jani_table.specs.Node.{Node}
use Rattle.jani_tree.specs.Syntax as jani
use Rattle.jani_tree.specs.Places.{bare_file}
use Rattle.jani_tree.specs.Back.{OnlyLong}
use Rattle.jani_check.specs.Faults as judged
use Rattle.prop_trees.specs.Trees.{PrismProperty, JaniProperty, ask_with, path_with}
use Rattle.prop_trees.specs.Form.{AreOfPrism}
use Rattle.jani_props.specs.Faults.{shape_faults, structures}
use Rattle.jani_props.specs.Reading.{AreRead, AreSound}
use Rattle.name_table.specs.Entries.{Ask}
use Rattle.name_table.specs.Asks.{asks}
use Rattle.jani_translation.specs.Translated.{translated}
use Rattle.prop_to_jani.specs.ToJani.{property_asks, reward_names, to_jani, to_jani_node}

-- ---- files and properties

-- a JANI file with this value for its properties
abbrev pub with_properties : jani.File → Node → jani.File
with_properties f v = record {
  actions = f.actions;
  constants = f.constants;
  variables = f.variables;
  restrict = f.restrict;
  automata = f.automata;
  elements = f.elements;
  elements_at = f.elements_at;
  vectors = f.vectors;
  properties = v;
}

-- a property with every offset in its expressions 0
abbrev pub bare_property : JaniProperty → JaniProperty
bare_property p = record { name = p.name; ask = ask_with bare (λ i. i) p.ask; path = path_with bare p.path }

-- Fewer than 10 ^ 20 names are asked for, so that a number of one has at most twenty digits, and no old name has more than 255 bytes.
pub record AreShort (asked : List Ask) : Type 0 where
  pub few : length asked < 10 ^ 20
  pub names : Each (λ a. IfAny (λ x. length x ≤ 255) a.1) asked

-- ---- what is read

-- The model's reward structures are the file's, by their names and in order. Each fault of the shape of the file's properties is that of
-- a name of more than 255 bytes, and there is none where the names of the model and of its properties are short. The phases of names and of
-- types find nothing in the translated properties, which stand there at some places; and where there is no fault of shape, these are read, and
-- the value spells no others.
pub record IsReadBack (c : Checked) (ps : List PrismProperty) (file : jani.File) : Type 0 where
  pub rewards : structures file ≡ reward_names (flat c.file)
  pub long : OnlyLong (shape_faults file)
  pub short : AreShort (asks (flat c.file) ++ property_asks ps) → shape_faults file ≡ []
  pub properties : List JaniProperty
  pub same : map bare_property properties ≡ map bare_property (to_jani c.file ps)
  pub sound : AreSound file properties
  pub read : shape_faults file ≡ [] → AreRead file properties

-- There is no such fault: these properties are read.
pub record IsReadWhole (c : Checked) (ps : List PrismProperty) (file : jani.File) : Type 0 where
  pub back : IsReadBack c ps file
  pub shaped : shape_faults file ≡ []
  pub read : AreRead file back.properties

-- The first of both holds of each file without fault that is, places aside, the translation of a judged model with the value of its translated
-- properties.
abbrev pub TranslatedReadBack : Type 0
TranslatedReadBack = (c : Checked) → IsChecked c → (ps : List PrismProperty) → AreOfPrism c.file ps → (file : jani.File) → judged.IsChecked file →
    bare_file file ≡ bare_file (with_properties (translated (flat c.file)) (to_jani_node c.file ps)) → IsReadBack c ps file
