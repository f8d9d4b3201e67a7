-- A member at the end.
use Rattle.std.proofs.Common.{◌≡◌, ap, ◌∙◌, List, [], ◌∷◌, ◌++◌}
use Rattle.jani_table.specs.declared.key.Key.{Key}
use Rattle.decimal_json.specs.declared.tree.Json.{Json}
use Rattle.decimal_json.specs.declared.tree.Member.{Member}
use Rattle.jani_table.specs.Node.{Node, field, no_fields, node, fields, named_node}
use Rattle.jani_table.specs.NodeLaws.{node_named}
use Rattle.jani_table.specs.Table.{spelled}
use Rattle.jani_tree.specs.Canonical.{with_entry}

fields_end : (ms : List Member) (m : Member) (k : Key) (v : Node) → named_node m ≡ (record { name = spelled k; at = 0 }, v) → fields (ms ++ m ∷ []) ≡ with_entry (fields ms) k v
fields_end [] m k v e = ap (λ p. field p.0 p.1 no_fields) e
fields_end (x ∷ ms) m k v e = ap (λ r. field (named_node x).0 (named_node x).1 r) (fields_end ms m k v e)

pub fields_push : (ms new : List Member) (m : Member) (k : Key) (v : Json) → new ≡ ms ++ m ∷ [] → m.key.name ≡ spelled k → m.key.at ≡ 0 → m.value ≡ v → fields new ≡ with_entry (fields ms) k (node v)
fields_push ms new m k v e n a w =
    ap fields e ∙ fields_end ms m k (node v) (node_named m ∙ (ap (λ s. (record { name = s; at = m.key.at }, node m.value)) n
    ∙ (ap (λ i. (record { name = spelled k; at = i }, node m.value)) a ∙ ap (λ x. (record { name = spelled k; at = 0 }, node x)) w)))
