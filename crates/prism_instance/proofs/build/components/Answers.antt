use Rattle.expr_store.specs.Alike.{made_all, made_more, made_none}
use Rattle.expr_store.specs.Views.{nodes}
use Rattle.prism_instance.specs.Views.{columns_in}
use Rattle.network.specs.Views.{component_at}
use Rattle.prism_instance.specs.Sites.{member_under, sorted_of}
use Rattle.prism_instance.proofs.build.components.Goals as goal

pub loop-one-init : goal.loop-one-init
loop-one-init c = λ s. made_none (λ at x. component_at (columns_in c.args.names.now) at s x) (λ seen x. member_under (columns_in c.args.names.now) seen x) (sorted_of) c.args.modules.now (nodes c.args.store.now) c.in_ok-all.all.items c.in_ok-all.ensures.items

pub loop-one-preserved : goal.loop-one-preserved
loop-one-preserved c = λ s.
    made_more (λ at x. component_at (columns_in c.args.names.now) at s x) (λ seen x. member_under (columns_in c.args.names.now) seen x) (sorted_of) c.args.modules.now (nodes c.args.store.now) (nodes c.loop-one.store) (nodes c.component.new.store)
    c.loop-one.one-index c.one-item.result c.loop-one.all.items c.push.new.self.items c.in_ok-component.component c.loop-one-test.true c.one-item.is c.in_ok-push.ensures.items
    (c.loop-one.invariant s)
    (c.in_ok-component.ensures s)

pub returns : goal.returns
returns c = λ s.
    made_all (λ at x. component_at (columns_in c.args.names.now) at s x) (λ seen x. member_under (columns_in c.args.names.now) seen x) (sorted_of) c.args.modules.now (nodes c.args.store.now) (nodes c.loop-one.store) c.loop-one.one-index c.loop-one.all.items c.loop-one-test.false
    (c.loop-one.invariant s)
