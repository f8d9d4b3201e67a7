use Rattle.std.proofs.Common.{◌≡◌, map, take}
use Rattle.std.specs.List.{filter, flat_map}
use Rattle.edge_tables.specs.Tables.{all_numbers, blocks}
use Rattle.edge_tables.specs.Code.{table_view}
use Rattle.prism_targets.specs.Code.{row_view}
use Rattle.prism_targets.proofs.served.blocked.Given as goal

abbrev pub invariant-loop-row : goal.invariant-loop-row
invariant-loop-row l = l.all.items ≡ flat_map all_numbers (filter (blocks l.element (table_view l.edges)) (map (λ r. row_view r.now) (take l.row-index l.rows)))
