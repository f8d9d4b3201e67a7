use Rattle.std.specs.Prelude.{◌≡◌, map, take}
use Rattle.jani_tree.specs.Syntax.{automaton_of, element_of}
use Rattle.jani_loops.specs.Looped.{element_under}
use Rattle.jani_loops.proofs.elements.each_looped.Given as goal

abbrev pub invariant-loop-e : goal.invariant-loop-e
invariant-loop-e l = map automaton_of l.all ≡ map (element_under l.automata) (map element_of (take l.e-index l.elements))
