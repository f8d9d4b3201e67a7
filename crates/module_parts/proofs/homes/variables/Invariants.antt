use Rattle.std.proofs.Common.{◌≡◌, map, take}
use Rattle.prism_tree.specs.Syntax as prism
use Rattle.edge_tables.specs.Parts.{variable}
use Rattle.module_parts.specs.Code.{file_in, names_in, lasting_of}
use Rattle.module_parts.proofs.homes.variables.Given as goal

abbrev pub invariant-loop-x : goal.invariant-loop-x
invariant-loop-x l = map prism.var_of l.all ≡ map (variable (file_in l.names) (names_in l.names)) (map lasting_of (take l.x-index l.vars))
