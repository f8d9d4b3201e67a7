use Rattle.std.proofs.Common.{map, take}
use Rattle.expr_store.specs.Alike.{IsMade}
use Rattle.expr_store.specs.Views.{nodes}
use Rattle.prism_tree.specs.Operators.{prism_meaning}
use Rattle.prism_instance.specs.Views.{places_in}
use Rattle.prism_tree.specs.Syntax as syntax
use Rattle.std.specs.Borrow.{Bor}
use Rattle.prism_tree.specs.declared.syntax.PrismItem.{PrismItem}
use Rattle.network.specs.Views.{item_at}
use Rattle.prism_instance.specs.Shapes.{item_under}
use Rattle.prism_instance.proofs.build.each_item.Given as goal

abbrev pub invariant-loop-it : goal.invariant-loop-it
invariant-loop-it l =
    IsMade prism_meaning (places_in l.names) (nodes l.fn.store) (nodes l.store) (λ at. map (λ x. item_at at x) l.all.items)
    (λ seen. map (λ x. item_under seen x) (map (λ (i : Bor PrismItem). syntax.item_of i.now) (take l.it-index l.items)))
