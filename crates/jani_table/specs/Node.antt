-- JSON values (RFC 8259) as data without addresses, whose parts clauses can go through: each value with its offset, an
-- object with the offset of its closing brace besides, a member with its key and the offset of that.
use Rattle.std.specs.Prelude.{ℕ, ◌+◌, List, [], ◌∷◌, Bool, map}
use Rattle.frac_core.specs.declared.decimal.Decimal.{Decimal}
use Rattle.bridge_io.specs.declared.reason.Named.{Named}
use Rattle.decimal_json.specs.declared.tree.Json.{Json}
use Rattle.decimal_json.specs.declared.tree.Member.{Member}
use Rattle.decimal_json.specs.declared.tree.Json.TheFolds.{fold-Json, fold-Member}
use Rattle.decimal_json.specs.declared.tree.Json.TheOpen.{Json-F, Member-F}

mutual
  pub data Node : Type 0 where
    null : ℕ → Node
    truth : ℕ → Bool → Node
    number : ℕ → Decimal → Node
    text : ℕ → List ℕ → Node
    array : ℕ → Nodes → Node
    object : ℕ → Fields → ℕ → Node

  pub data Nodes : Type 0 where
    no_nodes : Nodes
    more_nodes : Node → Nodes → Nodes

  pub data Fields : Type 0 where
    no_fields : Fields
    field : Named → Node → Fields → Fields

abbrev pub nodes_of : List Node → Nodes
nodes_of [] = no_nodes
nodes_of (v ∷ vs) = more_nodes v (nodes_of vs)

abbrev pub fields_of : List (Named × Node) → Fields
fields_of [] = no_fields
fields_of (m ∷ ms) = field m.0 m.1 (fields_of ms)

-- one level, with the values inside already seen as nodes
abbrev pub node_step : Json-F Node (Named × Node) → Node
node_step (Json-F.Null at) = null at
node_step (Json-F.Truth at b) = truth at b
node_step (Json-F.Number at d) = number at d
node_step (Json-F.Str at s) = text at s
node_step (Json-F.Array at vs) = array at (nodes_of vs)
node_step (Json-F.Object at ms close) = object at (fields_of ms) close

abbrev pub member_step : Member-F Node (Named × Node) → Named × Node
member_step m = (m.key, m.value)

-- the value that the code holds
abbrev pub node : Json → Node
node = fold-Json Node (Named × Node) node_step member_step

abbrev pub named_node : Member → Named × Node
named_node = fold-Member Node (Named × Node) node_step member_step

-- the offset of a value
abbrev pub at_of : Node → ℕ
at_of (null at) = at
at_of (truth at b) = at
at_of (number at d) = at
at_of (text at s) = at
at_of (array at vs) = at
at_of (object at ms close) = at

abbrev pub fields : List Member → Fields
fields ms = fields_of (map named_node ms)

abbrev pub nodes : List Json → Nodes
nodes vs = nodes_of (map node vs)

-- the number of values in it, itself counted, and of members and items
abbrev mutual
  pub size : Node → ℕ
  size (null at) = 1
  size (truth at b) = 1
  size (number at d) = 1
  size (text at s) = 1
  size (array at vs) = size_nodes vs + 1
  size (object at ms close) = size_fields ms + 1

  pub size_nodes : Nodes → ℕ
  size_nodes no_nodes = 0
  size_nodes (more_nodes v vs) = size v + size_nodes vs + 1

  pub size_fields : Fields → ℕ
  size_fields no_fields = 0
  size_fields (field n v rest) = size v + size_fields rest + 1
