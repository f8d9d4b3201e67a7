use Rattle.std.proofs.Common.{[], refl}
use Rattle.std.specs.Borrow.{Bor}
use Rattle.state_choices.specs.declared.data.Update.{Update}
use Rattle.state_choices.specs.Views.{update_of}
use Rattle.state_choices.proofs.Gathered.{map_after}
use Rattle.state_choices.proofs.branches.references.Goals as goal

pub loop-update-preserved : goal.loop-update-preserved
loop-update-preserved c =
    map_after (λ (u : Bor Update). update_of u.now) update_of [] c.args.updates.now c.loop-update.update-index c.update-item.result c.loop-update.all.items c.push.new.self.items _
    c.loop-update-test.true c.update-item.is c.loop-update.invariant c.in_ok-push.ensures.items refl
