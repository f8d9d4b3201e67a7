use Rattle.std.specs.Borrow.{Bor}
use Rattle.prism_tree.specs.Syntax as prism
use Rattle.prism_tree.specs.declared.syntax.PrismItem.{PrismItem}
use Rattle.jani_edges.specs.Code.{names_in}
use Rattle.jani_edges.proofs.RewardSums.{sum_more, sum_all}
use Rattle.jani_edges.proofs.rewards.sum_behind.Goals as goal

pub loop-i-preserved : goal.loop-i-preserved
loop-i-preserved c =
    sum_more (names_in c.args.names.now) (λ (i : Bor PrismItem). prism.item_of i.now) c.args.items.now c.loop-i.i-index c.i-item.result _ _ _ _ c.loop-i-test.true c.i-item.is
    c.loop-i.invariant c.in_ok-value.ensures c.in_ok-sum.ensures

pub returns : goal.returns
returns c =
    sum_all (names_in c.args.names.now) (λ (i : Bor PrismItem). prism.item_of i.now) c.args.items.now c.loop-i.i-index _ _ c.loop-i-test.false c.loop-i.invariant
