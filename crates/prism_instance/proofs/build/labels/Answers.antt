use Rattle.expr_store.specs.Alike.{made_all, made_more, made_none}
use Rattle.expr_store.specs.Views.{nodes}
use Rattle.network.specs.Views.{value_by}
use Rattle.prism_names.specs.Names.{see}
use Rattle.prism_tree.specs.Syntax.{label_of}
use Rattle.prism_instance.proofs.build.labels.Goals as goal

pub loop-label-init : goal.loop-label-init
loop-label-init c = λ s. made_none (λ at x. value_by at s x) (λ seen x. see x.body seen) (label_of) c.args.labels.now (nodes c.args.store.now) c.in_ok-all.all.items c.in_ok-all.ensures.items

pub loop-label-preserved : goal.loop-label-preserved
loop-label-preserved c = λ s.
    made_more (λ at x. value_by at s x) (λ seen x. see x.body seen) (label_of) c.args.labels.now (nodes c.args.store.now) (nodes c.loop-label.store) (nodes c.valued.new.store)
    c.loop-label.label-index c.label-item.result c.loop-label.all.items c.push.new.self.items c.in_ok-one.one c.loop-label-test.true c.label-item.is c.in_ok-push.ensures.items
    (c.loop-label.invariant s)
    (c.in_ok-one.ensures s)

pub returns : goal.returns
returns c = λ s.
    made_all (λ at x. value_by at s x) (λ seen x. see x.body seen) (label_of) c.args.labels.now (nodes c.args.store.now) (nodes c.loop-label.store) c.loop-label.label-index c.loop-label.all.items c.loop-label-test.false
    (c.loop-label.invariant s)
