use Rattle.std.proofs.Common.{◌∙◌, ap, map}
use Rattle.std.specs.Borrow.{Bor}
use Rattle.process_core.specs.Ready as core
use Rattle.process_core.specs.Choices.{assigned}
use Rattle.state_choices.specs.declared.data.Update.{Update}
use Rattle.state_choices.specs.Views.{update_of, reward_of}
use Rattle.state_choices.proofs.Writing.{put_step, assigned-append}
use Rattle.state_choices.proofs.branches.earned.Goals as goal

pub loop-update-preserved : goal.loop-update-preserved
loop-update-preserved c =
    put_step assigned assigned-append (λ (u : core.Update). u.rewards) (λ (u : Bor Update). update_of u.now) c.args.updates.now c.loop-update.update-index c.update-item.result c.loop-update.earned.items _ _
    c.loop-update-test.true c.update-item.is c.loop-update.invariant (c.assign-earned.ensures ∙ ap (λ ws. assigned c.loop-update.earned.items (map reward_of ws)) c.as_slice.ensures)
