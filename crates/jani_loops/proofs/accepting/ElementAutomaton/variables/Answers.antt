use Rattle.std.proofs.Common.{sym, ap, ◌∙◌, map}
use Rattle.jani_tree.specs.Syntax.{automaton_of, var_of}
use Rattle.jani_meaning.specs.LoopLaws.{same_variables}
use Rattle.jani_loops.proofs.accepting.ElementAutomaton.variables.Goals as goal

pub returns : goal.returns
returns c = ap (map var_of) c.as_slice.ensures ∙ sym (same_variables c.args.self.now.accepts.now (automaton_of c.args.self.now.automaton.now))
