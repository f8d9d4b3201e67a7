use Rattle.std.proofs.Common.{refl}
use Rattle.prism_print.proofs.Steps.{item_done}
use Rattle.prism_print.proofs.parts.write_list.Goals as goal

pub loop-item-init : goal.loop-item-init
loop-item-init g c = refl

pub loop-item-preserved : goal.loop-item-preserved
loop-item-preserved g c = item_done c.loop-item.lead.now c.args.between.now g.T.Canonical.text _ _ _ _ _ _ _ c.loop-item-test.true c.item-item.is
    (c.in_ok-extend_from_slice.ensures.items) (c.in_ok-write.ensures) c.loop-item.invariant
