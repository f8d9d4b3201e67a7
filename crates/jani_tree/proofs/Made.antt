-- Data without addresses is that of a JSON value; so the canonical text of what can be kept is spelled by it.
use Rattle.std.proofs.Common.{◌≡◌, ℕ, refl, sym, ap, ap₂, ◌∙◌, true, List, [], ◌∷◌, map}
use Rattle.std.specs.Str.{is_utf8}
use Rattle.std.proofs.lemmas.Bool.{and_from}
use Rattle.bridge_io.specs.declared.reason.Named.{Named}
use Rattle.decimal_json.specs.declared.tree.Json.{Json}
use Rattle.decimal_json.specs.declared.tree.Json.TheVariants.{Null, Truth, Number, Str, Array, Object, rolls-Null, rolls-Truth, rolls-Number, rolls-Str, rolls-Array, rolls-Object}
use Rattle.decimal_json.specs.declared.tree.Member.{Member}
use Rattle.decimal_json.specs.declared.tree.Json.TheFolds.{fold-roll-Json, fold-roll-Member}
use Rattle.decimal_json.specs.Proper.{all_true, is_proper, member_proper}
use Rattle.jani_table.specs.Node.{Node, null, truth, number, text, array, object, Nodes, no_nodes, more_nodes, Fields, no_fields, field, nodes_of, fields_of, node, named_node}
use Rattle.decimal_json.proofs.Back.{spelled_by}
use Rattle.jani_tree.specs.Text.{ProperNode, ProperNodes, ProperFields, SpellsNode, node_text}
use Rattle.jani_tree.proofs.Text.{text_of_node}

mutual
  pub json_of : Node → Json
  json_of (null at) = Null at
  json_of (truth at b) = Truth at b
  json_of (number at d) = Number at d
  json_of (text at s) = Str at s
  json_of (array at vs) = Array at (items_of vs)
  json_of (object at ms close) = Object at (members_of ms) close

  items_of : Nodes → List Json
  items_of no_nodes = []
  items_of (more_nodes v vs) = json_of v ∷ items_of vs

  members_of : Fields → List Member
  members_of no_fields = []
  members_of (field n v rest) = record { key = n; value = json_of v } ∷ members_of rest

-- ---- its data
mutual
  unfolding json_of

  pub node_back : (v : Node) → node (json_of v) ≡ v
  node_back (null at) = ap node (sym (rolls-Null at)) ∙ fold-roll-Json _ _ _ _ _
  node_back (truth at b) = ap node (sym (rolls-Truth at b)) ∙ fold-roll-Json _ _ _ _ _
  node_back (number at d) = ap node (sym (rolls-Number at d)) ∙ fold-roll-Json _ _ _ _ _
  node_back (text at s) = ap node (sym (rolls-Str at s)) ∙ fold-roll-Json _ _ _ _ _
  node_back (array at vs) = ap node (sym (rolls-Array at (items_of vs))) ∙ (fold-roll-Json _ _ _ _ _ ∙ ap (array at) (nodes_back vs))
  node_back (object at ms close) = ap node (sym (rolls-Object at (members_of ms) close)) ∙ (fold-roll-Json _ _ _ _ _ ∙ ap (λ fs. object at fs close) (fields_back ms))

  nodes_back : (vs : Nodes) → nodes_of (map node (items_of vs)) ≡ vs
  nodes_back no_nodes = refl
  nodes_back (more_nodes v vs) = ap₂ more_nodes (node_back v) (nodes_back vs)

  fields_back : (ms : Fields) → fields_of (map named_node (members_of ms)) ≡ ms
  fields_back no_fields = refl
  fields_back (field n v rest) =
      ap₂ (λ (p : Named × Node) fs. field p.0 p.1 fs) (fold-roll-Member _ _ _ _ (record { key = n; value = json_of v }) ∙ ap (λ w. (n, w)) (node_back v)) (fields_back rest)

-- ---- what can be kept
mutual
  unfolding json_of

  pub proper_back : (v : Node) → ProperNode v → is_proper (json_of v) ≡ true
  proper_back (null at) p = ap is_proper (sym (rolls-Null at)) ∙ fold-roll-Json _ _ _ _ _
  proper_back (truth at b) p = ap is_proper (sym (rolls-Truth at b)) ∙ fold-roll-Json _ _ _ _ _
  proper_back (number at d) p = ap is_proper (sym (rolls-Number at d)) ∙ (fold-roll-Json _ _ _ _ _ ∙ p)
  proper_back (text at s) p = ap is_proper (sym (rolls-Str at s)) ∙ (fold-roll-Json _ _ _ _ _ ∙ p)
  proper_back (array at vs) p = ap is_proper (sym (rolls-Array at (items_of vs))) ∙ (fold-roll-Json _ _ _ _ _ ∙ proper_items vs p)
  proper_back (object at ms close) p = ap is_proper (sym (rolls-Object at (members_of ms) close)) ∙ (fold-roll-Json _ _ _ _ _ ∙ proper_members ms p)

  proper_items : (vs : Nodes) → ProperNodes vs → all_true (map is_proper (items_of vs)) ≡ true
  proper_items no_nodes p = refl
  proper_items (more_nodes v vs) p = and_from (is_proper (json_of v)) (all_true (map is_proper (items_of vs))) (proper_back v p.0) (proper_items vs p.1)

  proper_members : (ms : Fields) → ProperFields ms → all_true (map member_proper (members_of ms)) ≡ true
  proper_members no_fields p = refl
  proper_members (field n v rest) p =
      and_from (member_proper (record { key = n; value = json_of v })) (all_true (map member_proper (members_of rest)))
      (fold-roll-Member _ _ _ _ (record { key = n; value = json_of v }) ∙ and_from (is_utf8 n.name) (is_proper (json_of v)) p.0 (proper_back v p.1)) (proper_members rest p.2)

-- ---- the canonical text of data that can be kept is spelled by a value of it
pub spelled_node : (v : Node) (bytes : List ℕ) → bytes ≡ node_text v → ProperNode v → SpellsNode bytes v
spelled_node v bytes e p =
    (json_of v, node_back v, spelled_by bytes (json_of v) (e ∙ sym (text_of_node (json_of v) ∙ ap node_text (node_back v))) (proper_back v p))
