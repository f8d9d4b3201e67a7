use Rattle.std.specs.Prelude.{map}
use Rattle.std.proofs.Common.{◌∙◌, ap}
use Rattle.jani_tree.specs.Syntax.{automaton_of}
use Rattle.jani_check.specs.Participants.{automaton_in}
use Rattle.jani_check.proofs.elements.rewarding_of.Goals as goal

pub each_rewarding-requires : goal.each_rewarding-requires
each_rewarding-requires c = record {
  things = c.requires;
  automata = λ x. c.in_ok-automata.ensures x ∙ ap (λ l. automaton_in (map automaton_of l) x) c.as_slice.ensures;
}
