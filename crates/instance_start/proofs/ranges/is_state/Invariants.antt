use Rattle.std.proofs.Common.{◌≡◌, map, drop}
use Rattle.process_core.specs.Instance.{is_state}
use Rattle.instance_start.specs.Columns.{column_of}
use Rattle.instance_start.proofs.ranges.is_state.Given as goal

abbrev pub invariant-loop-i : goal.invariant-loop-i
invariant-loop-i l = is_state (map column_of l.columns) l.s ≡ is_state (map column_of (drop l.i l.columns)) (drop l.i l.s)
