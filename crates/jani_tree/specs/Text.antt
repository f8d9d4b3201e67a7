-- The canonical text of a JANI file, as a function of its tree: that of its canonical value, in which no offset stands.
use Rattle.std.specs.Prelude.{◌≡◌, ℕ, true, false, List, [], ◌∷◌, ◌++◌, codes}
use Rattle.std.specs.Str.{is_utf8}
use Rattle.decimal_json.specs.declared.tree.Json.{Json}
use Rattle.decimal_json.specs.Proper.{is_kept, SpellsValue}
use Rattle.frac_core.specs.Text.{number_text}
use Rattle.decimal_json.specs.Text.{quoted, with_commas, text_of}
use Rattle.jani_table.specs.Node.{Node, null, truth, number, text, array, object, Nodes, no_nodes, more_nodes, Fields, no_fields, field, node}
use Rattle.jani_tree.specs.Syntax.{File}
use Rattle.jani_tree.specs.Canonical.{file_node}
use Rattle.jani_tree.specs.Form.{NormalNode}

abbrev mutual
  pub node_text : Node → List ℕ
  node_text (null at) = codes "null"
  node_text (truth at true) = codes "true"
  node_text (truth at false) = codes "false"
  node_text (number at d) = number_text d
  node_text (text at s) = quoted s
  node_text (array at vs) = 0x5b ∷ (with_commas (item_texts vs) ++ 0x5d ∷ [])
  node_text (object at ms close) = 0x7b ∷ (with_commas (member_texts ms) ++ 0x7d ∷ [])

  pub item_texts : Nodes → List (List ℕ)
  item_texts no_nodes = []
  item_texts (more_nodes v vs) = node_text v ∷ item_texts vs

  pub member_texts : Fields → List (List ℕ)
  member_texts no_fields = []
  member_texts (field n v rest) = (quoted n.name ++ 0x3a ∷ node_text v) ∷ member_texts rest

abbrev pub jani_text : File → List ℕ
jani_text f = node_text (file_node f)

-- the text of a value is that of its data
abbrev pub TextOfNode : Type 0
TextOfNode = (x : Json) → text_of x ≡ node_text (node x)

-- ---- what can be kept: each number in normal form and within the bounds of its type, each string and each key in UTF-8
abbrev mutual
  pub ProperNode : Node → Type 0
  ProperNode (null at) = Unit {0}
  ProperNode (truth at b) = Unit {0}
  ProperNode (number at d) = is_kept d ≡ true
  ProperNode (text at s) = is_utf8 s ≡ true
  ProperNode (array at vs) = ProperNodes vs
  ProperNode (object at ms close) = ProperFields ms

  pub ProperNodes : Nodes → Type 0
  ProperNodes no_nodes = Unit {0}
  ProperNodes (more_nodes v vs) = ProperNode v × ProperNodes vs

  pub ProperFields : Fields → Type 0
  ProperFields no_fields = Unit {0}
  ProperFields (field n v rest) = (is_utf8 n.name ≡ true) × ProperNode v × ProperFields rest

-- it can be kept where each of its literals is in normal form
pub record KeptNode (v : Node) : Type 0 where
  pub proper : NormalNode v → ProperNode v

-- the bytes spell a JSON value of this data, places aside
abbrev pub SpellsNode : List ℕ → Node → Type 0
SpellsNode bytes v = (x : Json) × (node x ≡ v) × SpellsValue bytes x
