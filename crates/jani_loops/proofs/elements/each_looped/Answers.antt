use Rattle.std.proofs.Common.{ap, ◌∙◌}
use Rattle.gathering.proofs.Loops.{mapped_more}
use Rattle.name_rules.specs.Names.{under}
use Rattle.jani_tree.specs.Syntax.{automaton_of, element_of}
use Rattle.jani_meaning.specs.Loops.{with_loops}
use Rattle.jani_loops.specs.Looped.{automaton_or_nothing, element_under}
use Rattle.jani_loops.proofs.elements.each_looped.Goals as goal

pub loop-e-preserved : goal.loop-e-preserved
loop-e-preserved c =
    let e = c.e-item.result in
    mapped_more automaton_of (element_under c.args.automata.now) element_of c.args.elements.now c.loop-e.all c.push.new.self c.loop-e.e-index e c.in_ok-made.made
    c.loop-e-test.true c.e-item.is c.loop-e.invariant
    (c.in_ok-made.ensures ∙ ap (λ a. with_loops e.enable (automaton_or_nothing a e.name)) (c.get.ensures ∙ ap (under c.args.automata.now) c.as_str.ensures))
    c.in_ok-push.ensures.ok
