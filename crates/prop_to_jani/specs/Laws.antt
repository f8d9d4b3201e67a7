-- What holds of translated properties, and of their value: statements, which are proved of the functions of this crate.
use Rattle.std.specs.Prelude.{◌≡◌, List}
use Rattle.prism_names.specs.Flat.{flat}
use Rattle.prism_check.specs.Checked.{Checked, IsChecked}
use Rattle.jani_table.specs.Node.{Node}
use Rattle.jani_tree.specs.Syntax as jani
use Rattle.jani_tree.specs.Places.{bare_node, bare_file}
use Rattle.jani_tree.specs.Form.{NormalNode, KeysOnce}
use Rattle.jani_check.specs.Faults as judged
use Rattle.jani_translation.specs.Translated.{translated}
use Rattle.prop_trees.specs.Trees.{PrismProperty, JaniProperty}
use Rattle.prop_trees.specs.PrismFaults.{AreSound}
use Rattle.prop_trees.specs.Form.{AreOfPrism}
use Rattle.prop_trees.specs.Agree.{AllAgree}
use Rattle.prop_trees.specs.JaniText.{AreProperties}
use Rattle.prop_to_jani.specs.ToJani.{naming, reward_names, to_jani, to_jani_node}
use Rattle.prop_to_jani.specs.ReadBack.{with_properties, IsReadBack}

-- The properties of a judged model agree with those that they are translated to, one by one, in order.
abbrev pub TranslatedAgree : Type 0
TranslatedAgree = (c : Checked) → IsChecked c → (ps : List PrismProperty) → AreSound c.file ps → AllAgree c.file (naming (flat c.file)) ps (to_jani c.file ps)

-- A value spells these properties, under the names of the reward structures of the model's translation, and no others.
pub record SpellsOnly (c : Checked) (v : Node) (qs : List JaniProperty) : Type 0 where
  pub spells : AreProperties (reward_names (flat c.file)) v qs
  pub only : (rs : List JaniProperty) → AreProperties (reward_names (flat c.file)) v rs → rs ≡ qs

-- So it is with the value of translated properties.
abbrev pub TranslatedSpelled : Type 0
TranslatedSpelled = (c : Checked) → IsChecked c → (ps : List PrismProperty) → AreOfPrism c.file ps → SpellsOnly c (to_jani_node c.file ps) (to_jani c.file ps)

-- ---- what the call promises

-- The value is that of the translation, places aside, with which the properties agree. Each of its numbers is in normal form, and no
-- object of it has a key twice. In the file that the model is translated to, with this value for its properties, the translated ones are read.
pub record IsTranslated (c : Checked) (ps : List PrismProperty) (v : Node) : Type 0 where
  pub same : bare_node v ≡ bare_node (to_jani_node c.file ps)
  pub agree : AllAgree c.file (naming (flat c.file)) ps (to_jani c.file ps)
  pub normal : NormalNode v
  pub once : KeysOnce v
  pub read : (file : jani.File) → judged.IsChecked file → bare_file file ≡ bare_file (with_properties (translated (flat c.file)) v) → IsReadBack c ps file
