use Rattle.std.proofs.Common.{◌∙◌, ap}
use Rattle.name_rules.specs.Names.{under}
use Rattle.gathering.proofs.Loops.{map_more}
use Rattle.jani_instance.specs.Parts.{automaton_at, automaton_by, named_automaton}
use Rattle.jani_instance.proofs.parts.plain_parts.Goals as goal

pub loop-e-preserved : goal.loop-e-preserved
loop-e-preserved c =
    let t = c.args.automata.now in
    let e = c.e-item.result in
    map_more automaton_at (λ d. automaton_by t d.name) c.args.elements.now c.loop-e.e-index e c.loop-e.all.items c.push.new.self.items _
    c.loop-e-test.true c.e-item.is c.loop-e.invariant c.in_ok-push.ensures.items
    (c.plain.ensures ∙ ap (λ o. named_automaton o e.name) (c.get.ensures ∙ ap (under t) c.as_str.ensures))
