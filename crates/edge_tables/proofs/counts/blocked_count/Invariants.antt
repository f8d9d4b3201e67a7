use Rattle.std.specs.Prelude.{◌≡◌, map, take}
use Rattle.std.specs.List.{filter, sum_by}
use Rattle.op_trees.specs.Tree.{capped}
use Rattle.edge_tables.specs.Tables.{split_count}
use Rattle.edge_tables.specs.Counts.{blocks_split}
use Rattle.edge_tables.specs.Code.{table_view, split_view}
use Rattle.edge_tables.proofs.counts.blocked_count.Given as goal

abbrev pub invariant-loop-split : goal.invariant-loop-split
invariant-loop-split l = l.sum ≡ capped (sum_by split_count (filter (blocks_split l.number (table_view l.element)) (map (λ s. split_view s.now) (take l.split-index l.splits))))
