use Rattle.expr_store.specs.Alike.{made_all, made_more, made_none}
use Rattle.expr_store.specs.Views.{nodes}
use Rattle.prism_tree.specs.Syntax as syntax
use Rattle.std.specs.Borrow.{Bor}
use Rattle.prism_tree.specs.declared.syntax.PrismItem.{PrismItem}
use Rattle.network.specs.Views.{item_at}
use Rattle.prism_instance.specs.Shapes.{item_under}
use Rattle.prism_instance.proofs.build.each_item.Goals as goal

pub loop-it-init : goal.loop-it-init
loop-it-init c = made_none (λ at x. item_at at x) (λ seen x. item_under seen x) (λ (i : Bor PrismItem). syntax.item_of i.now) c.args.items.now (nodes c.args.store.now) c.in_ok-all.all.items c.in_ok-all.ensures.items

pub loop-it-preserved : goal.loop-it-preserved
loop-it-preserved c =
    made_more (λ at x. item_at at x) (λ seen x. item_under seen x) (λ (i : Bor PrismItem). syntax.item_of i.now) c.args.items.now (nodes c.args.store.now) (nodes c.loop-it.store) (nodes c.item.new.store)
    c.loop-it.it-index c.it-item.result c.loop-it.all.items c.push.new.self.items c.in_ok-one.one c.loop-it-test.true c.it-item.is c.in_ok-push.ensures.items
    c.loop-it.invariant
    c.in_ok-one.ensures

pub returns : goal.returns
returns c =
    made_all (λ at x. item_at at x) (λ seen x. item_under seen x) (λ (i : Bor PrismItem). syntax.item_of i.now) c.args.items.now (nodes c.args.store.now) (nodes c.loop-it.store) c.loop-it.it-index c.loop-it.all.items c.loop-it-test.false
    c.loop-it.invariant
