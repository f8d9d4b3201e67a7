use Rattle.std.specs.Prelude.{◌≡◌, None, map, drop}
use Rattle.name_rules.specs.Least.{soonest}
use Rattle.name_table.specs.JaniParts.{owned_of}
use Rattle.edge_tables.specs.Counts.{split_faults}
use Rattle.edge_tables.specs.Code.{writing_at}
use Rattle.edge_tables.proofs.shared.judge.Given as goal

abbrev pub invariant-loop-i : goal.invariant-loop-i
invariant-loop-i l = soonest l.best (split_faults (writing_at l.writings) l.i (map owned_of (drop l.i l.lasting))) ≡ soonest None (split_faults (writing_at l.writings) 0 (map owned_of l.lasting))
