use Rattle.std.proofs.Common.{◌≡◌, map, drop}
use Rattle.std.specs.List.{list_any}
use Rattle.process_core.specs.Instance.{is_wide_column}
use Rattle.instance_start.specs.Columns.{variable_of}
use Rattle.instance_start.proofs.faults.has_wide_variable.Given as goal

abbrev pub invariant-loop-variable : goal.invariant-loop-variable
invariant-loop-variable l = list_any is_wide_column (map variable_of l.variables) ≡ list_any is_wide_column (map variable_of (drop l.variable-index l.variables))
