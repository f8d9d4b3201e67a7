-- What the code's lists of the parts of properties have. (This project's own.)
use Rattle.std.specs.Prelude.{List, [], ◌∷◌}
use Rattle.op_trees.specs.Tree.{tree}
use Rattle.prism_tree.specs.Syntax.{Expression}
use Rattle.prop_trees.specs.Syntax.{role_of}
use Rattle.prop_trees.specs.Trees.{Role, state}
use Rattle.prop_check.specs.declared.parts.Part.{Part}

abbrev pub part_of : Part → Role × Expression
part_of p = (role_of p.role, tree p.e.now)

-- two state formulas
abbrev pub states : Expression → Expression → List (Role × Expression)
states a b = (state, a) ∷ (state, b) ∷ []
