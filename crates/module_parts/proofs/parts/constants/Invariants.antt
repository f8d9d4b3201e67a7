use Rattle.std.proofs.Common.{◌≡◌, ◌++◌, map, drop}
use Rattle.std.specs.List.{zip}
use Rattle.prism_tree.specs.Syntax as prism
use Rattle.jani_tree.specs.Syntax as jani
use Rattle.edge_tables.specs.Parts.{constant}
use Rattle.module_parts.specs.Code.{file_in, names_in}
use Rattle.module_parts.proofs.parts.constants.Given as goal

abbrev pub invariant-loop-i : goal.invariant-loop-i
invariant-loop-i l =
    map prism.const_of l.all
    ++ map (λ p. constant (file_in l.names) (names_in l.names) p.0 p.1.name) (zip (map jani.const_of (drop l.i l.constants)) (drop l.i l.names.entries.constants.now))
    ≡ map (λ p. constant (file_in l.names) (names_in l.names) p.0 p.1.name) (zip (map jani.const_of l.constants) l.names.entries.constants.now)
