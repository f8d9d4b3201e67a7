use Rattle.std.proofs.Common.{◌≡◌, ◌++◌, length, map, drop}
use Rattle.jani_loops.specs.Elements.{element_view}
use Rattle.jani_to_prism.proofs.carry.location_counts.Given as goal

abbrev pub invariant-loop-i : goal.invariant-loop-i
invariant-loop-i l =
    l.all ++ map (λ a. length a.locations) (map element_view (drop l.i l.automata)) ≡ map (λ a. length a.locations) (map element_view l.automata)
