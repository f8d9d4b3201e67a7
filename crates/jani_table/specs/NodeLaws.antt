-- JSON values and their data, part by part.
use Rattle.std.proofs.Common.{◌≡◌, ℕ, ◌≤◌, sym, ap, ◌∙◌, List, [], length, drop, arith}
use Rattle.std.proofs.lemmas.Grind.{common_steps}
use Rattle.decimal_json.specs.declared.tree.Json.{Json}
use Rattle.decimal_json.specs.declared.tree.Json.TheVariants.{Array, Object, rolls-Array, rolls-Object}
use Rattle.decimal_json.specs.declared.tree.Json.TheFolds.{fold-roll-Json, fold-roll-Member}
use Rattle.decimal_json.specs.declared.tree.Member.{Member}
use Rattle.jani_table.specs.Node.{node, nodes, fields, named_node, array, object}

pub node_array : (at : ℕ) (vs : List Json) → node (Array at vs) ≡ array at (nodes vs)
node_array at vs = ap node (sym (rolls-Array at vs)) ∙ fold-roll-Json _ _ _ _ _

pub node_object : (at : ℕ) (ms : List Member) (close : ℕ) → node (Object at ms close) ≡ object at (fields ms) close
node_object at ms close = ap node (sym (rolls-Object at ms close)) ∙ fold-roll-Json _ _ _ _ _

pub node_named : (m : Member) → named_node m ≡ (m.key, node m.value)
node_named m = fold-roll-Member _ _ _ _ (record { key = m.key; value = m.value })

pub drop_all : {A : Type 0} (xs : List A) (i : ℕ) → length xs ≤ i → drop i xs ≡ []
drop_all xs i h = grind (arith, common_steps)
