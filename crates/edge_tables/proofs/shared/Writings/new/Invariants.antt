use Rattle.std.specs.Prelude.{◌≡◌, ℕ, vec_len}
use Rattle.edge_tables.specs.Counts.{unwritten}
use Rattle.edge_tables.specs.Code.{writing_at}
use Rattle.edge_tables.proofs.shared.Writings.new.Given as goal

abbrev pub invariant-loop-i : goal.invariant-loop-i
invariant-loop-i l = record { count : vec_len l.table ≡ l._i; unwritten : (j : ℕ) → writing_at (record { table = l.table }) j ≡ unwritten }
