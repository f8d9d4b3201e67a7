use Rattle.std.proofs.Common.{◌≡◌, map, drop}
use Rattle.process_core.specs.Instance.{begin_all}
use Rattle.instance_start.specs.Columns.{column_of}
use Rattle.instance_start.proofs.ranges.begin_all.Given as goal

abbrev pub invariant-loop-i : goal.invariant-loop-i
invariant-loop-i l = begin_all (map column_of l.columns) l.s ≡ begin_all (map column_of (drop l.i l.columns)) (drop l.i l.s)
