use Rattle.std.specs.Prelude.{◌≡◌, ◌*◌, ℕ, List, Some, take}
use Rattle.std.specs.List.{sum_by}
use Rattle.op_trees.specs.Tree.{capped}
use Rattle.jani_tree.specs.Syntax.{automaton_of}
use Rattle.edge_tables.specs.Tables.{Split}
use Rattle.edge_tables.specs.Counts.{action_count, guard_nodes}
use Rattle.edge_tables.specs.Code.{AreSums}
use Rattle.edge_tables.proofs.loop_counts.loop_nodes.Given as goal

abbrev pub invariant-loop-x : goal.invariant-loop-x
invariant-loop-x l = (ss : List Split) (k : ℕ) → AreSums l.sums ss k → l.sum ≡ capped (sum_by (λ x. action_count ss k (Some x.name) * guard_nodes (automaton_of l.a) x) (take l.x-index l.actions))
