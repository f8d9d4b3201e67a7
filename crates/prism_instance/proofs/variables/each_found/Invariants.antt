use Rattle.std.proofs.Common.{◌≡◌, map, take}
use Rattle.prism_check.specs.Scene.{column}
use Rattle.prism_names.specs.Names.{unchanged}
use Rattle.instance_start.specs.Columns.{trimmed_column}
use Rattle.prism_instance.specs.Found.{found_column}
use Rattle.prism_instance.specs.Variables.{vars_of}
use Rattle.prism_instance.specs.Views.{seen_in}
use Rattle.prism_instance.proofs.variables.each_found.Given as goal

abbrev pub invariant-loop-variable : goal.invariant-loop-variable
invariant-loop-variable l = map found_column l.all.items ≡ map (λ x. trimmed_column (column l.has_condition unchanged (seen_in l.names) x)) (vars_of (take l.variable-index l.variables))
