use Rattle.std.proofs.Common.{sym, ◌∙◌}
use Rattle.jani_tree.specs.Syntax.{automaton_of}
use Rattle.jani_meaning.specs.LoopLaws.{same_initial}
use Rattle.jani_loops.proofs.accepting.ElementAutomaton.initial.Goals as goal

pub returns : goal.returns
returns c = c.as_slice.ensures ∙ sym (same_initial c.args.self.now.accepts.now (automaton_of c.args.self.now.automaton.now))
