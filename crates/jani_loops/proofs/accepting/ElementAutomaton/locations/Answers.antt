use Rattle.std.proofs.Common.{sym, ap, ◌∙◌, map}
use Rattle.jani_tree.specs.Syntax.{automaton_of, location_of}
use Rattle.jani_meaning.specs.LoopLaws.{same_locations}
use Rattle.jani_loops.proofs.accepting.ElementAutomaton.locations.Goals as goal

pub returns : goal.returns
returns c = ap (map location_of) c.as_slice.ensures ∙ sym (same_locations c.args.self.now.accepts.now (automaton_of c.args.self.now.automaton.now))
