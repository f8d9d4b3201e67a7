use Rattle.std.proofs.Common.{refl}
use Rattle.std.specs.Borrow.{Bor}
use Rattle.prism_tree.specs.declared.syntax.PrismItem.{PrismItem}
use Rattle.prism_tree.specs.Syntax.{Item, item_of}
use Rattle.prism_check.specs.Moment.{adds_of}
use Rattle.prism_check.specs.Process.{is_for_states}
use Rattle.gathering.proofs.Loops.{kept_step}
use Rattle.prism_instance.proofs.earnings.state_items.Goals as goal

pub loop-item-preserved : goal.loop-item-preserved
loop-item-preserved c =
    kept_step (λ (i : Bor PrismItem). item_of i.now) (λ (i : Item). is_for_states (adds_of i.on)) item_of c.args.items.now c.loop-item.item-index c.item-item.result _ c.is_for_states-wanted.result
    c.loop-item.these.items c.keep_if.new.all.items c.loop-item-test.true c.item-item.is c.loop-item.invariant refl c.is_for_states-wanted.ensures c.in_ok-keep_if.ensures
