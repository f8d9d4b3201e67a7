use Rattle.expr_store.specs.Alike.{made_all, made_map, made_more, made_none}
use Rattle.expr_store.specs.Views.{nodes}
use Rattle.instance_start.specs.Numbered.{Numbered, with_value}
use Rattle.network.specs.Views.{earned_at, item_at}
use Rattle.prism_instance.specs.Shapes.{item_under}
use Rattle.prism_instance.specs.Sites.{earned_of}
use Rattle.process_core.specs.Bounds.{Item}
use Rattle.prism_tree.specs.Syntax.{item_of}
use Rattle.prism_instance.proofs.build.earned.Goals as goal

pub loop-one-init : goal.loop-one-init
loop-one-init c = made_none (λ at x. earned_at at x) (λ seen x. with_value (item_under seen) x) (earned_of) c.args.these.now (nodes c.args.store.now) c.in_ok-all.all.items c.in_ok-all.ensures.items

pub loop-one-preserved : goal.loop-one-preserved
loop-one-preserved c =
    made_more (λ at x. earned_at at x) (λ seen x. with_value (item_under seen) x) (earned_of) c.args.these.now (nodes c.args.store.now) (nodes c.loop-one.store) (nodes c.item.new.store)
    c.loop-one.one-index c.one-item.result c.loop-one.all.items c.push.new.self.items _ c.loop-one-test.true c.one-item.is c.in_ok-push.ensures.items
    c.loop-one.invariant
    (made_map {Y = Numbered Item} (λ i. record { number = c.one-item.result.structure; value = i }) (λ at. item_at at c.in_ok-item.item) (λ seen. item_under seen (item_of c.one-item.result.item.now)) c.in_ok-item.ensures)

pub returns : goal.returns
returns c =
    made_all (λ at x. earned_at at x) (λ seen x. with_value (item_under seen) x) (earned_of) c.args.these.now (nodes c.args.store.now) (nodes c.loop-one.store) c.loop-one.one-index c.loop-one.all.items c.loop-one-test.false
    c.loop-one.invariant
