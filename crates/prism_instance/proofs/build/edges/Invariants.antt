use Rattle.std.proofs.Common.{map, take}
use Rattle.expr_store.specs.Alike.{IsMade}
use Rattle.expr_store.specs.Views.{nodes}
use Rattle.prism_tree.specs.Operators.{prism_meaning}
use Rattle.prism_instance.specs.Views.{columns_in, places_in}
use Rattle.prism_tree.specs.Syntax as syntax
use Rattle.std.specs.Borrow.{Bor}
use Rattle.prism_tree.specs.declared.syntax.PrismCommand.{PrismCommand}
use Rattle.network.specs.Combined.{erased}
use Rattle.network.specs.Views.{edge_at}
use Rattle.prism_instance.specs.Shapes.{command_under}
use Rattle.prism_instance.proofs.build.edges.Given as goal

abbrev pub invariant-loop-command : goal.invariant-loop-command
invariant-loop-command l =
    IsMade prism_meaning (places_in l.names) (nodes l.fn.store) (nodes l.store) (λ at. map (λ x. edge_at (columns_in l.names) at x) l.all.items)
    (λ seen. map (λ x. erased (command_under (columns_in l.names) seen x)) (map (λ (c : Bor PrismCommand). syntax.command_of c.now) (take l.command-index l.commands)))
