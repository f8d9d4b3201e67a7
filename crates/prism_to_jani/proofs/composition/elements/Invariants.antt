use Rattle.std.proofs.Common.{◌≡◌, map, take}
use Rattle.jani_tree.specs.Syntax as jani
use Rattle.prism_to_jani.proofs.composition.elements.Given as goal

abbrev pub invariant-loop-a : goal.invariant-loop-a
invariant-loop-a l = map jani.element_of l.all ≡ map (λ a. jani.plain_element a.name) (map jani.automaton_of (take l.a-index l.automata))
