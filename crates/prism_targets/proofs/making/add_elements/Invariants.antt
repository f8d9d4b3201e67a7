use Rattle.std.proofs.Common.{◌≡◌, ◌++◌, map, drop, take, vec_len}
use Rattle.edge_tables.specs.Tables.{served_from}
use Rattle.prism_targets.specs.Made.{silent_from}
use Rattle.edge_tables.specs.Code.{shape_kept, table_view}
use Rattle.prism_targets.specs.Code.{element_served, row_view, shape_served, target_view}
use Rattle.prism_targets.proofs.making.add_elements.Given as goal

abbrev pub invariant-loop-k : goal.invariant-loop-k
invariant-loop-k l = record {
  targets : map target_view l.targets.items ++ silent_from l.k (map table_view (drop l.k l.edges))
      ≡ map target_view l.initial.targets.items ++ silent_from 0 (map table_view l.edges);
  elements : map element_served l.all.items ++ served_from (map row_view l.rows) l.k (vec_len l.targets) (map table_view (drop l.k l.edges))
      ≡ served_from (map row_view l.rows) 0 (vec_len l.initial.targets) (map table_view l.edges);
  shapes : map shape_served l.all.items ≡ map shape_kept (take l.k l.edges);
}
