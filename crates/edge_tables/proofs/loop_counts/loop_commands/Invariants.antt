use Rattle.std.specs.Prelude.{◌≡◌, ◌*◌, ℕ, List, Some, length, take}
use Rattle.std.specs.List.{sum_by}
use Rattle.op_trees.specs.Tree.{capped}
use Rattle.edge_tables.specs.Tables.{Split}
use Rattle.edge_tables.specs.Counts.{action_count}
use Rattle.edge_tables.specs.Code.{AreSums}
use Rattle.edge_tables.proofs.loop_counts.loop_commands.Given as goal

abbrev pub invariant-loop-x : goal.invariant-loop-x
invariant-loop-x l = (ss : List Split) (k : ℕ) → AreSums l.sums ss k → l.sum ≡ capped (sum_by (λ x. length l.locations * action_count ss k (Some x.name)) (take l.x-index l.actions))
