use Rattle.std.proofs.Common.{◌∙◌, ap, length, map}
use Rattle.std.specs.Borrow.{Bor}
use Rattle.process_core.specs.Ready as core
use Rattle.state_choices.specs.Apart.{taken_back}
use Rattle.state_choices.specs.declared.data.Update.{Update}
use Rattle.state_choices.specs.Views.{update_of, write_of}
use Rattle.state_choices.proofs.Columns.{length-taken_back, taken_back-append}
use Rattle.state_choices.proofs.Writing.{put_step}
use Rattle.state_choices.proofs.stepping.take_all_back.Goals as goal

pub loop-update-preserved : goal.loop-update-preserved
loop-update-preserved c =
    let from = c.args.from.now in
    let old = c.loop-update.values.items in (
      ap length c.take_back.ensures ∙ length-taken_back from old (map write_of c.as_slice.result.now) ∙ c.loop-update.invariant.0,
      put_step (taken_back from) (taken_back-append from) (λ (u : core.Update). u.writes) (λ (u : Bor Update). update_of u.now) c.args.updates.now c.loop-update.update-index c.update-item.result old _ _
          c.loop-update-test.true c.update-item.is c.loop-update.invariant.1 (c.take_back.ensures ∙ ap (λ ws. taken_back from old (map write_of ws)) c.as_slice.ensures),
    )
