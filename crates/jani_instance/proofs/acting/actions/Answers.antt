use Rattle.jani_instance.specs.Actions.{IsNumbered}
use Rattle.jani_instance.specs.Parts.{automaton_at}
use Rattle.jani_instance.proofs.Numbering.{zip_more}
use Rattle.jani_instance.proofs.acting.actions.Goals as goal

pub loop-part-preserved : goal.loop-part-preserved
loop-part-preserved c =
    zip_more IsNumbered automaton_at c.args.parts.now c.loop-part.part-index c.part-item.result c.loop-part.all.items c.push.new.self.items _ c.loop-part-test.true c.part-item.is c.loop-part.invariant
    c.in_ok-push.ensures.items c.in_ok-numbers_of.ensures
