use Rattle.std.proofs.Common.{◌∙◌, ap, map}
use Rattle.std.specs.Borrow.{Bor}
use Rattle.process_core.specs.Ready as core
use Rattle.process_core.specs.Choices.{written}
use Rattle.state_choices.specs.declared.data.Update.{Update}
use Rattle.state_choices.specs.Views.{update_of, write_of}
use Rattle.state_choices.proofs.Writing.{put_step, written-append}
use Rattle.state_choices.proofs.branches.written.Goals as goal

pub loop-update-preserved : goal.loop-update-preserved
loop-update-preserved c =
    put_step written written-append (λ (u : core.Update). u.writes) (λ (u : Bor Update). update_of u.now) c.args.updates.now c.loop-update.update-index c.update-item.result c.loop-update.values.items _ _
    c.loop-update-test.true c.update-item.is c.loop-update.invariant (c.write-values.ensures ∙ ap (λ ws. written c.loop-update.values.items (map write_of ws)) c.as_slice.ensures)
