use Rattle.std.proofs.Common.{◌≡◌, ◌++◌, map, drop}
use Rattle.std.specs.List.{zip}
use Rattle.prism_tree.specs.Syntax as prism
use Rattle.jani_tree.specs.Syntax as jani
use Rattle.jani_edges.specs.Parts.{constant}
use Rattle.jani_edges.specs.Code.{name_in}
use Rattle.jani_automata.proofs.parts.constants.Given as goal

abbrev pub invariant-loop-i : goal.invariant-loop-i
invariant-loop-i l =
    map jani.const_of l.all ++ map (λ p. constant (name_in l.names) p.0 p.1) (zip (map prism.const_of (drop l.i l.constants)) (drop l.i l.entries))
    ≡ map (λ p. constant (name_in l.names) p.0 p.1) (zip (map prism.const_of l.constants) l.entries)
