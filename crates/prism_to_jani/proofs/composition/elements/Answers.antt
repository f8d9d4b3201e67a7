use Rattle.std.proofs.Common.{ap, ap₂, ◌∙◌}
use Rattle.gathering.proofs.Loops.{mapped_more}
use Rattle.jani_tree.specs.Syntax as jani
use Rattle.name_table.specs.Made.{instead}
use Rattle.prism_to_jani.proofs.composition.elements.Goals as goal

pub loop-a-preserved : goal.loop-a-preserved
loop-a-preserved c =
    let a = c.a-item.result in
    mapped_more jani.element_of (λ (a : jani.Automaton). jani.plain_element a.name) jani.automaton_of c.args.automata.now c.loop-a.all c.push.new.self c.loop-a.a-index a _
    c.loop-a-test.true c.a-item.is c.loop-a.invariant
    (ap₂ (λ n es. record { name = n; enable = es }) (c.in_ok-name.ensures ∙ ap (λ x. instead a.name x) c.as_str.ensures) c.new-enable.ensures)
    c.in_ok-push.ensures.ok
