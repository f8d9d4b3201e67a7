use Rattle.std.proofs.Common.{◌≡◌, map, take}
use Rattle.jani_instance.specs.Parts.{automaton_at, looped_by}
use Rattle.jani_instance.proofs.parts.looped_parts.Given as goal

abbrev pub invariant-loop-i : goal.invariant-loop-i
invariant-loop-i l = map automaton_at l.all.items ≡ map (looped_by l.automata) (take l.i l.elements)
