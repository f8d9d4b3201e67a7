-- How large the expressions of properties are once their formulas are written out. (This project's own.)
use Rattle.std.specs.Prelude.{ℕ, ◌+◌, max, List, [], ◌∷◌}
use Rattle.prism_tree.specs.Syntax.{Expression, File}
use Rattle.prism_names.specs.Order.{whole_nodes, whole_height}
use Rattle.prop_trees.specs.Trees.{Role}

abbrev pub nodes : File → List (Role × Expression) → ℕ
nodes file [] = 0
nodes file (x ∷ xs) = whole_nodes file x.1 + nodes file xs

abbrev pub highest : File → List (Role × Expression) → ℕ
highest file [] = 0
highest file (x ∷ xs) = max (whole_height file x.1) (highest file xs)
