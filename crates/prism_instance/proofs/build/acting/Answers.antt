use Rattle.expr_store.specs.Alike.{made_all, made_map, made_more, made_none}
use Rattle.expr_store.specs.Views.{nodes}
use Rattle.prism_instance.specs.Views.{columns_in}
use Rattle.instance_start.specs.Numbered.{Numbered, with_value}
use Rattle.network.specs.Combined.{erased}
use Rattle.network.specs.Views.{acting_at, edge_at}
use Rattle.prism_instance.specs.Shapes.{command_under}
use Rattle.prism_instance.specs.Sites.{acted_of}
use Rattle.process_core.specs.Ready.{Ready}
use Rattle.prism_tree.specs.Syntax.{command_of}
use Rattle.prism_instance.proofs.build.acting.Goals as goal

pub loop-one-init : goal.loop-one-init
loop-one-init c = made_none (λ at x. acting_at (columns_in c.args.names.now) at x) (λ seen x. with_value (λ k. erased (command_under (columns_in c.args.names.now) seen k)) x) (acted_of) c.args.these.now (nodes c.args.store.now) c.in_ok-all.all.items c.in_ok-all.ensures.items

pub loop-one-preserved : goal.loop-one-preserved
loop-one-preserved c =
    made_more (λ at x. acting_at (columns_in c.args.names.now) at x) (λ seen x. with_value (λ k. erased (command_under (columns_in c.args.names.now) seen k)) x) (acted_of) c.args.these.now (nodes c.args.store.now) (nodes c.loop-one.store) (nodes c.edge.new.store)
    c.loop-one.one-index c.one-item.result c.loop-one.all.items c.push.new.self.items _ c.loop-one-test.true c.one-item.is c.in_ok-push.ensures.items
    c.loop-one.invariant
    (made_map {Y = Numbered Ready} (λ r. record { number = c.one-item.result.action; value = r }) (λ at. edge_at (columns_in c.args.names.now) at c.in_ok-edge.edge) (λ seen. erased (command_under (columns_in c.args.names.now) seen (command_of c.one-item.result.command.now))) c.in_ok-edge.ensures)

pub returns : goal.returns
returns c =
    made_all (λ at x. acting_at (columns_in c.args.names.now) at x) (λ seen x. with_value (λ k. erased (command_under (columns_in c.args.names.now) seen k)) x) (acted_of) c.args.these.now (nodes c.args.store.now) (nodes c.loop-one.store) c.loop-one.one-index c.loop-one.all.items c.loop-one-test.false
    c.loop-one.invariant
