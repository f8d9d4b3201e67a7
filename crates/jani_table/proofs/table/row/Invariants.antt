use Rattle.std.proofs.Common.{◌≡◌, drop}
use Rattle.std.specs.Prelude.{bytes_eq, find}
use Rattle.jani_table.specs.Table.{spelled}
use Rattle.jani_table.proofs.table.row.Given as goal

abbrev pub invariant-loop-row : goal.invariant-loop-row
invariant-loop-row l = find (λ r. bytes_eq (spelled r.0) l.key) (drop l.row-index l.row-items) ≡ find (λ r. bytes_eq (spelled r.0) l.key) l.row-items
