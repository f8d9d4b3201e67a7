use Rattle.std.proofs.Common.{◌≡◌, ◌++◌, map, take, drop, vec_len}
use Rattle.std.specs.List.{flat_map}
use Rattle.edge_tables.specs.Tables.{rows_from}
use Rattle.prism_targets.specs.Made.{vector_made}
use Rattle.edge_tables.specs.Code.{split_view}
use Rattle.prism_targets.specs.Code.{row_view, target_view}
use Rattle.prism_targets.proofs.rows.add_all_targets.Given as goal

abbrev pub invariant-loop-split : goal.invariant-loop-split
invariant-loop-split l = record {
  targets : map target_view l.all.items ≡ map target_view l.initial.all.items ++ flat_map vector_made (map split_view (take l.split-index l.splits));
  rows : map row_view l.rows.items ++ rows_from (vec_len l.all) (map split_view (drop l.split-index l.splits)) ≡ rows_from (vec_len l.initial.all) (map split_view l.splits);
}
