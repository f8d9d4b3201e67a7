use Rattle.std.proofs.Common.{◌≡◌, map, take}
use Rattle.prism_tree.specs.Syntax as prism
use Rattle.jani_tree.specs.Syntax as jani
use Rattle.edge_tables.specs.Modules.{branch}
use Rattle.module_parts.specs.Code.{file_in, names_in, element_of}
use Rattle.module_parts.proofs.updates.branches.Given as goal

abbrev pub invariant-loop-d : goal.invariant-loop-d
invariant-loop-d l =
    map prism.branch_of l.all ≡ map (branch (file_in l.names) (names_in l.names) (element_of l.el) l.single) (map jani.destination_of (take l.d-index l.destinations))
