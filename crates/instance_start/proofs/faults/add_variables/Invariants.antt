use Rattle.std.proofs.Common.{◌≡◌, ◌++◌, map, take}
use Rattle.std.specs.List.{flat_map}
use Rattle.instance_start.specs.Columns.{variable_of}
use Rattle.instance_start.specs.Kinds.{column_named}
use Rattle.instance_start.proofs.faults.add_variables.Given as goal

abbrev pub invariant-loop-variable : goal.invariant-loop-variable
invariant-loop-variable l = l.faults ≡ l.initial.faults ++ flat_map (column_named l.has_condition) (map variable_of (take l.variable-index l.variables))
