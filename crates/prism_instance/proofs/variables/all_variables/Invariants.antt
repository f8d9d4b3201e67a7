use Rattle.std.proofs.Common.{◌≡◌, ◌++◌, map, take}
use Rattle.std.specs.List.{flat_map}
use Rattle.prism_tree.specs.Syntax.{var_of, module_of}
use Rattle.prism_instance.specs.Variables.{own_variables, vars_of}
use Rattle.prism_instance.proofs.variables.all_variables.Given as goal

abbrev pub invariant-loop-one : goal.invariant-loop-one
invariant-loop-one l = vars_of l.all.items ≡ map var_of l.file.globals ++ flat_map own_variables (map module_of (take l.one-index l.file.modules))
