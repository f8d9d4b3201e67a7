use Rattle.std.proofs.Common.{◌≡◌, map, take}
use Rattle.jani_tree.specs.Syntax.{vector_of}
use Rattle.edge_tables.specs.Tables.{split_from}
use Rattle.edge_tables.specs.Code.{table_view, split_view}
use Rattle.edge_tables.proofs.splits.all_splits.Given as goal

abbrev pub invariant-loop-v : goal.invariant-loop-v
invariant-loop-v l = map split_view l.all.items ≡ map (λ v. split_from v 0 (map table_view l.elements)) (map vector_of (take l.v-index l.vectors))
