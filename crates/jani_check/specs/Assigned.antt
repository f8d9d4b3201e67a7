-- What the code's tables say is assigned, and what lists that it keeps say.
use Rattle.std.specs.Prelude.{ℕ, List, Bool, ◌||◌, Option}
use Rattle.std.specs.Borrow.{Bor}
use Rattle.std.specs.List.{list_any}
use Rattle.std.specs.Option.{option_map}
use Rattle.op_trees.specs.Tree.{tree}
use Rattle.op_trees.specs.declared.tree.Expr.{Expr}
use Rattle.jani_table.specs.declared.operator.JaniOp.{JaniOp}
use Rattle.name_rules.specs.Names.{Name, under}
use Rattle.name_rules.specs.declared.map.NameMap.{NameMap}
use Rattle.jani_tree.specs.Syntax.{Expression, Write, Destination}
use Rattle.jani_check.specs.declared.things.Thing.{Thing}
use Rattle.jani_check.specs.ProfileFaults.{lacks, rewards_by, value_for}

abbrev pub value_under : NameMap (Bor (Expr JaniOp)) → List ℕ → Option Expression
value_under t x = option_map (λ e. tree e.now) (under t x)

-- a destination lacks one of these rewards, or assigns one that these values lack
abbrev pub unlike : (Name → Option Thing) → List Write → (Name → Option Expression) → Destination → Bool
unlike things rewards values e = list_any (lacks (value_for e.writes)) rewards || list_any (lacks values) (rewards_by things e.writes)
