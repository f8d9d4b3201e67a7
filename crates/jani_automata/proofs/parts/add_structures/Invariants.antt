use Rattle.std.proofs.Common.{◌≡◌, ◌++◌, map, drop}
use Rattle.std.specs.List.{zip}
use Rattle.prism_tree.specs.Syntax as prism
use Rattle.jani_tree.specs.Syntax as jani
use Rattle.jani_edges.specs.Parts.{structure}
use Rattle.jani_automata.proofs.parts.add_structures.Given as goal

abbrev pub invariant-loop-i : goal.invariant-loop-i
invariant-loop-i l =
    map jani.var_of l.all ++ map (λ p. structure p.0 p.1) (zip (map (prism.rewards_of) (drop l.i l.rewards)) (drop l.i l.entries))
    ≡ map jani.var_of l.initial.all ++ map (λ p. structure p.0 p.1) (zip (map (prism.rewards_of) l.rewards) l.entries)
