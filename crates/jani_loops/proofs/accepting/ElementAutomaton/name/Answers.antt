use Rattle.std.proofs.Common.{sym}
use Rattle.jani_tree.specs.Syntax.{automaton_of}
use Rattle.jani_meaning.specs.LoopLaws.{same_name}
use Rattle.jani_loops.proofs.accepting.ElementAutomaton.name.Goals as goal

pub returns : goal.returns
returns c = sym (same_name c.args.self.now.accepts.now (automaton_of c.args.self.now.automaton.now))
