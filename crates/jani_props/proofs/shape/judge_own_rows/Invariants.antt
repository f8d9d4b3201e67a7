use Rattle.std.proofs.Common.{◌≡◌, drop}
use Rattle.jani_table.specs.Node.{fields}
use Rattle.name_rules.specs.Least.{soonest}
use Rattle.jani_props.specs.Shape.{missing_faults}
use Rattle.jani_props.proofs.shape.judge_own_rows.Given as goal

abbrev pub invariant-loop-row : goal.invariant-loop-row
invariant-loop-row l =
    soonest l.best (missing_faults (fields l.members) l.close (drop l.row-index l.row-items)) ≡ soonest l.fn.first (missing_faults (fields l.members) l.close l.row-items)
