-- The names that expressions use.
use Rattle.std.specs.Prelude.{List, [], map, Option, None, Some}
use Rattle.op_trees.specs.Tree.{Tree}
use Rattle.op_trees.specs.Names.{names_of}
use Rattle.name_rules.specs.Names.{Name}

-- the names in an expression, if there is one
abbrev pub used : {O : Type 0} → Option (Tree O) → List Name
used None = []
used (Some e) = map (λ n. n.name) (names_of e)
