use Rattle.std.proofs.Common.{map, take}
use Rattle.expr_store.specs.Alike.{IsMade}
use Rattle.expr_store.specs.Views.{nodes}
use Rattle.prism_tree.specs.Operators.{prism_meaning}
use Rattle.prism_instance.specs.Views.{places_in}
use Rattle.std.specs.Borrow.{Bor}
use Rattle.std.proofs.Common.{Vec, Global}
use Rattle.prism_tree.specs.declared.syntax.PrismItem.{PrismItem}
use Rattle.network.specs.Views.{sum_at}
use Rattle.prism_instance.specs.Shapes.{sum_under}
use Rattle.prism_instance.specs.Views.{items_of}
use Rattle.prism_instance.proofs.build.sums.Given as goal

abbrev pub invariant-loop-items : goal.invariant-loop-items
invariant-loop-items l =
    IsMade prism_meaning (places_in l.names) (nodes l.fn.store) (nodes l.store) (λ at. map (λ x. sum_at at x.items) l.all.items)
    (λ seen. map (λ x. sum_under seen x) (map (λ (is : Vec (Bor PrismItem) Global). items_of is.items) (take l.items-index l.rewards)))
