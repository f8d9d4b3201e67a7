use Rattle.std.proofs.Common.{◌≡◌, map, take}
use Rattle.jani_instance.specs.Parts.{automaton_at, automaton_by}
use Rattle.jani_instance.proofs.parts.plain_parts.Given as goal

abbrev pub invariant-loop-e : goal.invariant-loop-e
invariant-loop-e l = map automaton_at l.all.items ≡ map (λ e. automaton_by l.automata e.name) (take l.e-index l.elements)
