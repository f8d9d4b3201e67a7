use Rattle.std.proofs.Common.{◌≡◌, ◌++◌, map, take}
use Rattle.prism_tree.specs.Syntax.{var_of}
use Rattle.prism_instance.specs.Variables.{vars_of}
use Rattle.prism_instance.proofs.variables.add_variables.Given as goal

abbrev pub invariant-loop-variable : goal.invariant-loop-variable
invariant-loop-variable l = vars_of l.all.items ≡ vars_of l.initial.all.items ++ map var_of (take l.variable-index l.variables)
