use Rattle.std.specs.Prelude.{◌≡◌, ℕ, List, map, drop}
use Rattle.std.specs.Option.{option_map, option_or as or_else}
use Rattle.op_trees.specs.Tree.{tree}
use Rattle.jani_tree.specs.Syntax.{write_of}
use Rattle.name_rules.specs.Names.{under}
use Rattle.jani_check.specs.ProfileFaults.{value_for}
use Rattle.jani_check.proofs.rewards.values_of.Given as goal

abbrev pub invariant-loop-w : goal.invariant-loop-w
invariant-loop-w l = (x : List ℕ) →
    or_else (option_map (λ e. tree e.now) (under l.values x)) (value_for (map write_of (drop l.w-index l.writes)) x) ≡ value_for (map write_of l.writes) x
