use Rattle.expr_store.specs.Alike.{made_all, made_more, made_none}
use Rattle.expr_store.specs.Views.{nodes}
use Rattle.prism_instance.specs.Views.{columns_in}
use Rattle.prism_tree.specs.Syntax as syntax
use Rattle.std.specs.Borrow.{Bor}
use Rattle.prism_tree.specs.declared.syntax.PrismCommand.{PrismCommand}
use Rattle.network.specs.Combined.{erased}
use Rattle.network.specs.Views.{edge_at}
use Rattle.prism_instance.specs.Shapes.{command_under}
use Rattle.prism_instance.proofs.build.edges.Goals as goal

pub loop-command-init : goal.loop-command-init
loop-command-init c = made_none (λ at x. edge_at (columns_in c.args.names.now) at x) (λ seen x. erased (command_under (columns_in c.args.names.now) seen x)) (λ (c : Bor PrismCommand). syntax.command_of c.now) c.args.commands.now (nodes c.args.store.now) c.in_ok-all.all.items c.in_ok-all.ensures.items

pub loop-command-preserved : goal.loop-command-preserved
loop-command-preserved c =
    made_more (λ at x. edge_at (columns_in c.args.names.now) at x) (λ seen x. erased (command_under (columns_in c.args.names.now) seen x)) (λ (c : Bor PrismCommand). syntax.command_of c.now) c.args.commands.now (nodes c.args.store.now) (nodes c.loop-command.store) (nodes c.edge.new.store)
    c.loop-command.command-index c.command-item.result c.loop-command.all.items c.push.new.self.items c.in_ok-one.one c.loop-command-test.true c.command-item.is c.in_ok-push.ensures.items
    c.loop-command.invariant
    c.in_ok-one.ensures

pub returns : goal.returns
returns c =
    made_all (λ at x. edge_at (columns_in c.args.names.now) at x) (λ seen x. erased (command_under (columns_in c.args.names.now) seen x)) (λ (c : Bor PrismCommand). syntax.command_of c.now) c.args.commands.now (nodes c.args.store.now) (nodes c.loop-command.store) c.loop-command.command-index c.loop-command.all.items c.loop-command-test.false
    c.loop-command.invariant
