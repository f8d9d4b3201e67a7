-- The object of an expression, and the parts of a vector.
use Rattle.std.proofs.Common.{◌≡◌, ℕ, refl, sym, subst, ap, ◌∙◌, List, [], Option, None, true}
use Rattle.jani_table.specs.declared.table.Form.TheVariants as F
use Rattle.jani_table.specs.declared.key.Key.TheVariants as K
use Rattle.jani_table.specs.declared.operator.JaniOp.{JaniOp}
use Rattle.bridge_io.specs.declared.reason.Named.{Named}
use Rattle.decimal_json.specs.declared.tree.Json.{Json}
use Rattle.decimal_json.specs.declared.tree.Json.TheVariants.{Null, Object, rolls-Null}
use Rattle.decimal_json.specs.declared.tree.Json.TheFolds.{fold-roll-Json}
use Rattle.decimal_json.specs.declared.tree.Member.{Member}
use Rattle.jani_table.specs.Node.{Node, null, truth, number, text, array, object, node, fields}
use Rattle.jani_table.specs.NodeLaws.{node_object}
use Rattle.jani_table.specs.Faults.{faults, member, op_in, is_text}
use Rattle.jani_table.specs.Laws as laws
use Rattle.jani_tree.specs.Jani.{IsPart}

pub has_operator : (v : Json) (at : ℕ) (ms slice : List Member) (close : ℕ) (op : Option JaniOp) → slice ≡ ms → v ≡ Object at ms close → op ≡ op_in (member K.Op (fields slice)) → op ≡ None → faults F.Expression (node v) ≡ [] → ⊥
has_operator v at ms slice close op s e o n c =
    laws.operation_there at (fields ms) close (ap (λ ms. op_in (member K.Op (fields ms))) (sym s) ∙ (sym o ∙ n))
    (ap (faults F.Expression) (sym (ap node e ∙ node_object at ms close)) ∙ c)

-- a string that may be the name of a part is a name
pub part_name : (v : Node) → is_text v ≡ true → faults F.NameOrNull v ≡ [] → faults F.Name v ≡ []
part_name (text at s) t c = c
part_name (null at) t c = absurd cc
part_name (truth at b) t c = absurd cc
part_name (number at d) t c = absurd cc
part_name (array at vs) t c = absurd cc
part_name (object at ms close) t c = absurd cc

-- a null is a part that does not take part
pub part_null : (v : Json) (at : ℕ) (p : Option Named) → v ≡ Null at → p ≡ None → IsPart (node v) p
part_null v at p e n = subst (λ q. IsPart (node v) q) (sym n) (subst (λ w. IsPart w None) (sym (ap node (e ∙ sym (rolls-Null at)) ∙ fold-roll-Json _ _ _ _ _)) refl)

pub part_same : (v : Node) (p q : Option Named) → p ≡ q → IsPart v q → IsPart v p
part_same v p q e h = subst (λ r. IsPart v r) (sym e) h
