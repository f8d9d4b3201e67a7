use Rattle.gathering.proofs.Loops.{map_more}
use Rattle.state_choices.specs.Views.{seen_of}
use Rattle.prism_instance.specs.Constants.{narrow_value}
use Rattle.prism_instance.proofs.start.answers.Goals as goal

pub loop-value-preserved : goal.loop-value-preserved
loop-value-preserved c =
    map_more seen_of narrow_value c.args.table.now c.loop-value.value-index _ c.loop-value.all.items c.push.new.self.items c.answer.result
    c.loop-value-test.true c.value-item.is c.loop-value.invariant c.in_ok-push.ensures.items c.answer.ensures
