use Rattle.std.specs.Prelude.{◌≡◌, ℕ, List, map, take}
use Rattle.std.specs.List.{filter, sum_by}
use Rattle.op_trees.specs.Tree.{capped}
use Rattle.edge_tables.specs.Counts.{names_split, weight}
use Rattle.edge_tables.specs.Code.{split_view, sum_under}
use Rattle.edge_tables.proofs.counts.action_sums.Given as goal

abbrev pub invariant-loop-split : goal.invariant-loop-split
invariant-loop-split l = (x : List ℕ) → sum_under l.sums x ≡ capped (sum_by (weight l.number) (filter (names_split l.number x) (map (λ s. split_view s.now) (take l.split-index l.splits))))
