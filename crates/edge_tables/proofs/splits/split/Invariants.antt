use Rattle.std.proofs.Common.{◌≡◌, map, drop}
use Rattle.jani_tree.specs.Syntax.{vector_of}
use Rattle.edge_tables.specs.Tables.{split_from}
use Rattle.edge_tables.specs.Code.{table_view}
use Rattle.edge_tables.proofs.splits.split.Given as goal

abbrev pub invariant-loop-k : goal.invariant-loop-k
invariant-loop-k l = split_from (vector_of l.v) l.k (map table_view (drop l.k l.elements)) ≡ split_from (vector_of l.v) 0 (map table_view l.elements)
