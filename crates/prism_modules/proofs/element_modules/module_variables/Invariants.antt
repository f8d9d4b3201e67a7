use Rattle.std.proofs.Common.{◌≡◌, ◌++◌, map, take}
use Rattle.process_core.specs.Instance.{only_if}
use Rattle.prism_tree.specs.Syntax as prism
use Rattle.prism_targets.specs.Elements.{has_several}
use Rattle.prism_targets.specs.Parts.{location_variable, variable}
use Rattle.module_parts.specs.Code.{file_in, names_in, element_of, lasting_of}
use Rattle.prism_modules.proofs.element_modules.module_variables.Given as goal

abbrev pub invariant-loop-x : goal.invariant-loop-x
invariant-loop-x l =
    map prism.var_of l.all
    ≡ only_if (has_several (element_of l.el)) (location_variable (file_in l.names) (names_in l.names) (element_of l.el))
    ++ map (variable (file_in l.names) (names_in l.names)) (map lasting_of (take l.x-index l.home))
