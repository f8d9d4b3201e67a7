use Rattle.std.proofs.Common.{◌≡◌, drop}
use Rattle.std.specs.Prelude.{bytes_eq, find}
use Rattle.jani_props.specs.Table.{spelled_key}
use Rattle.jani_props.proofs.table.own_row.Given as goal

abbrev pub invariant-loop-row : goal.invariant-loop-row
invariant-loop-row l = find (λ r. bytes_eq (spelled_key r.0) l.key) (drop l.row-index l.row-items) ≡ find (λ r. bytes_eq (spelled_key r.0) l.key) l.row-items
