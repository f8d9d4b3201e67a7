use Rattle.expr_store.specs.Alike.{made_all, made_more, made_none}
use Rattle.expr_store.specs.Views.{nodes}
use Rattle.prism_instance.specs.Views.{columns_in}
use Rattle.prism_tree.specs.Syntax as syntax
use Rattle.network.specs.Views.{write_at}
use Rattle.prism_instance.specs.Shapes.{write_under}
use Rattle.prism_instance.proofs.build.writes.Goals as goal

pub loop-write-init : goal.loop-write-init
loop-write-init c = made_none (λ at x. write_at (columns_in c.args.names.now) at x) (λ seen x. write_under (columns_in c.args.names.now) seen x) (syntax.write_of) c.args.writes.now (nodes c.args.store.now) c.in_ok-all.all.items c.in_ok-all.ensures.items

pub loop-write-preserved : goal.loop-write-preserved
loop-write-preserved c =
    made_more (λ at x. write_at (columns_in c.args.names.now) at x) (λ seen x. write_under (columns_in c.args.names.now) seen x) (syntax.write_of) c.args.writes.now (nodes c.args.store.now) (nodes c.loop-write.store) (nodes c.assignment.new.store)
    c.loop-write.write-index c.write-item.result c.loop-write.all.items c.push.new.self.items c.in_ok-one.one c.loop-write-test.true c.write-item.is c.in_ok-push.ensures.items
    c.loop-write.invariant
    c.in_ok-one.ensures

pub returns : goal.returns
returns c =
    made_all (λ at x. write_at (columns_in c.args.names.now) at x) (λ seen x. write_under (columns_in c.args.names.now) seen x) (syntax.write_of) c.args.writes.now (nodes c.args.store.now) (nodes c.loop-write.store) c.loop-write.write-index c.loop-write.all.items c.loop-write-test.false
    c.loop-write.invariant
