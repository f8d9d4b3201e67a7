use Rattle.std.proofs.Common.{◌∙◌, ap, length, map}
use Rattle.std.specs.Borrow.{Bor}
use Rattle.process_core.specs.Ready as core
use Rattle.process_core.specs.Choices.{written}
use Rattle.state_choices.specs.declared.data.Update.{Update}
use Rattle.state_choices.specs.Views.{update_of, write_of}
use Rattle.state_choices.proofs.Columns.{length-written}
use Rattle.state_choices.proofs.Writing.{put_step, written-append}
use Rattle.state_choices.proofs.stepping.put_all.Goals as goal

pub loop-update-preserved : goal.loop-update-preserved
loop-update-preserved c =
    let old = c.loop-update.values.items in (
      ap length c.put-left.ensures.values ∙ length-written old (map write_of c.as_slice.result.now) ∙ c.loop-update.invariant.0,
      c.put-left.ensures.apart,
      put_step written written-append (λ (u : core.Update). u.writes) (λ (u : Bor Update). update_of u.now) c.args.updates.now c.loop-update.update-index c.update-item.result old _ _
          c.loop-update-test.true c.update-item.is c.loop-update.invariant.2 (c.put-left.ensures.values ∙ ap (λ ws. written old (map write_of ws)) c.as_slice.ensures),
    )
