use Rattle.expr_store.specs.Alike.{made_all, made_more, made_none}
use Rattle.expr_store.specs.Views.{nodes}
use Rattle.prism_instance.specs.Views.{columns_in}
use Rattle.prism_tree.specs.Syntax as syntax
use Rattle.network.specs.Views.{update_at}
use Rattle.prism_instance.specs.Shapes.{update_under}
use Rattle.prism_instance.proofs.build.destinations.Goals as goal

pub loop-branch-init : goal.loop-branch-init
loop-branch-init c = made_none (λ at x. update_at (columns_in c.args.names.now) at x) (λ seen x. update_under (columns_in c.args.names.now) seen x) (syntax.branch_of) c.args.branches.now (nodes c.args.store.now) c.in_ok-all.all.items c.in_ok-all.ensures.items

pub loop-branch-preserved : goal.loop-branch-preserved
loop-branch-preserved c =
    made_more (λ at x. update_at (columns_in c.args.names.now) at x) (λ seen x. update_under (columns_in c.args.names.now) seen x) (syntax.branch_of) c.args.branches.now (nodes c.args.store.now) (nodes c.loop-branch.store) (nodes c.destination.new.store)
    c.loop-branch.branch-index c.branch-item.result c.loop-branch.all.items c.push.new.self.items c.in_ok-one.one c.loop-branch-test.true c.branch-item.is c.in_ok-push.ensures.items
    c.loop-branch.invariant
    c.in_ok-one.ensures

pub returns : goal.returns
returns c =
    made_all (λ at x. update_at (columns_in c.args.names.now) at x) (λ seen x. update_under (columns_in c.args.names.now) seen x) (syntax.branch_of) c.args.branches.now (nodes c.args.store.now) (nodes c.loop-branch.store) c.loop-branch.branch-index c.loop-branch.all.items c.loop-branch-test.false
    c.loop-branch.invariant
