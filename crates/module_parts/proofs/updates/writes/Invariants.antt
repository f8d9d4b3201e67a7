use Rattle.std.proofs.Common.{◌≡◌, ◌++◌, map, take}
use Rattle.std.specs.List.{flat_map}
use Rattle.prism_tree.specs.Syntax as prism
use Rattle.jani_tree.specs.Syntax as jani
use Rattle.edge_tables.specs.Modules.{write, location_write}
use Rattle.module_parts.specs.Code.{file_in, names_in, element_of}
use Rattle.module_parts.proofs.updates.writes.Given as goal

abbrev pub invariant-loop-w : goal.invariant-loop-w
invariant-loop-w l =
    map prism.write_of l.all
    ≡ location_write (file_in l.names) (names_in l.names) (element_of l.el) (jani.destination_of l.d)
    ++ flat_map (write (file_in l.names) (names_in l.names) (element_of l.el)) (map jani.write_of (take l.w-index l.w-items))
