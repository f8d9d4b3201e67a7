-- What an element stands for that is told as its automaton and the actions that it accepts everywhere. That its name, variables, locations
-- and first locations are its automaton's, and its edges the automaton's and then the loops, is told by jani_meaning's LoopLaws.
use Rattle.jani_tree.specs.Syntax.{Automaton, automaton_of}
use Rattle.jani_meaning.specs.Loops.{with_loops}
use Rattle.jani_loops.specs.declared.accepting.ElementAutomaton.{ElementAutomaton}

-- the automaton with the loops of these actions behind its edges
abbrev pub element_view : ElementAutomaton → Automaton
element_view e = with_loops e.accepts.now (automaton_of e.automaton.now)
