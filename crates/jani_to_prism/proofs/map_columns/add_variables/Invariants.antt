use Rattle.std.proofs.Common.{◌≡◌, ◌++◌, map, drop}
use Rattle.prism_modules.specs.Code.{lasting_of}
use Rattle.jani_to_prism.specs.MapParts.{variable_columns}
use Rattle.jani_to_prism.proofs.map_columns.add_variables.Given as goal

abbrev pub invariant-loop-x : goal.invariant-loop-x
invariant-loop-x l = l.all ++ variable_columns (map lasting_of (drop l.x-index l.vars)) ≡ l.initial.all ++ variable_columns (map lasting_of l.vars)
