use Rattle.expr_store.specs.Alike.{made_all, made_map, made_more, made_none}
use Rattle.expr_store.specs.Views.{nodes}
use Rattle.std.specs.Borrow.{Bor}
use Rattle.std.proofs.Common.{Vec, Global}
use Rattle.prism_tree.specs.declared.syntax.PrismItem.{PrismItem}
use Rattle.network.specs.Views.{item_at, sum_at}
use Rattle.prism_instance.specs.Shapes.{item_under, sum_under}
use Rattle.prism_instance.specs.Views.{items_of}
use Rattle.std.proofs.Common.{map, subst}
use Rattle.expr_store.specs.Alike.{IsMade}
use Rattle.process_core.specs.Bounds.{summed}
use Rattle.prism_tree.specs.Operators.{prism_meaning}
use Rattle.prism_instance.specs.Views.{places_in}
use Rattle.prism_instance.proofs.build.sums.Goals as goal

pub loop-items-init : goal.loop-items-init
loop-items-init c = made_none (λ at x. sum_at at x.items) (λ seen x. sum_under seen x) (λ (is : Vec (Bor PrismItem) Global). items_of is.items) c.args.rewards.now (nodes c.args.store.now) c.in_ok-all.all.items c.in_ok-all.ensures.items

pub loop-items-preserved : goal.loop-items-preserved
loop-items-preserved c =
    made_more (λ at x. sum_at at x.items) (λ seen x. sum_under seen x) (λ (is : Vec (Bor PrismItem) Global). items_of is.items) c.args.rewards.now (nodes c.args.store.now) (nodes c.loop-items.store) (nodes c.each_item.new.store)
    c.loop-items.items-index c.items-item.result c.loop-items.all.items c.push.new.self.items c.in_ok-one.one c.loop-items-test.true c.items-item.is c.in_ok-push.ensures.items
    c.loop-items.invariant
    (made_map summed (λ at. map (item_at at) c.in_ok-one.one.items) (λ seen. map (item_under seen) (items_of c.items-item.result.items))
    (subst (λ ys. IsMade prism_meaning (places_in c.args.names.now) (nodes c.loop-items.store) (nodes c.each_item.new.store) (λ at. map (item_at at) c.in_ok-one.one.items) (λ seen. map (item_under seen) (items_of ys))) c.as_slice.ensures.value c.in_ok-one.ensures))

pub returns : goal.returns
returns c =
    made_all (λ at x. sum_at at x.items) (λ seen x. sum_under seen x) (λ (is : Vec (Bor PrismItem) Global). items_of is.items) c.args.rewards.now (nodes c.args.store.now) (nodes c.loop-items.store) c.loop-items.items-index c.loop-items.all.items c.loop-items-test.false
    c.loop-items.invariant
