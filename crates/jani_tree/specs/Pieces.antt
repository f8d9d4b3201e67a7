-- The pieces of which the canonical text is written, each behind the text before it.
use Rattle.std.specs.Prelude.{ℕ, List, [], ◌++◌, codes, map, Option, Some, None}
use Rattle.bridge_io.specs.declared.reason.Named.{Named}
use Rattle.decimal_json.specs.Text.{quoted, with_commas}
use Rattle.jani_table.specs.Node.{Node}
use Rattle.jani_tree.specs.Text.{node_text}

-- what stands in front of a value and the value, if there is one
abbrev pub if_some : List ℕ → Option Node → List ℕ
if_some lead None = []
if_some lead (Some v) = lead ++ node_text v

-- an object whose one member is a name, behind its brace, key and colon
abbrev pub keyed_text : List ℕ → Named → List ℕ
keyed_text lead n = (lead ++ quoted n.name) ++ codes "}"

-- items between brackets
abbrev pub list_text : {A : Type 0} → (A → List ℕ) → List A → List ℕ
list_text f xs = codes "[" ++ (with_commas (map f xs) ++ codes "]")
