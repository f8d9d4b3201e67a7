use Rattle.std.proofs.Common.{refl}
use Rattle.std.specs.Borrow.{Bor}
use Rattle.gathering.proofs.Loops.{kept_step}
use Rattle.prism_tree.specs.Syntax as prism
use Rattle.prism_tree.specs.declared.syntax.PrismItem.{PrismItem}
use Rattle.jani_edges.specs.Code.{wanted_by}
use Rattle.jani_edges.proofs.rewards.items_of.Goals as goal

pub loop-i-preserved : goal.loop-i-preserved
loop-i-preserved c =
    kept_step (λ (x : Bor PrismItem). prism.item_of x.now) (λ (i : prism.Item). wanted_by c.args.wanted.now i.on) prism.item_of c.args.items.now c.loop-i.i-index
    c.i-item.result _ _ _ _ c.loop-i-test.true c.i-item.is c.loop-i.invariant refl c.is.ensures c.in_ok-keep_if.ensures
