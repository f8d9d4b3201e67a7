use Rattle.std.proofs.Common.{map, take}
use Rattle.expr_store.specs.Alike.{IsMade}
use Rattle.expr_store.specs.Views.{nodes}
use Rattle.prism_tree.specs.Operators.{prism_meaning}
use Rattle.prism_instance.specs.Views.{columns_in, places_in}
use Rattle.prism_tree.specs.Syntax as syntax
use Rattle.network.specs.Views.{update_at}
use Rattle.prism_instance.specs.Shapes.{update_under}
use Rattle.prism_instance.proofs.build.destinations.Given as goal

abbrev pub invariant-loop-branch : goal.invariant-loop-branch
invariant-loop-branch l =
    IsMade prism_meaning (places_in l.names) (nodes l.fn.store) (nodes l.store) (λ at. map (λ x. update_at (columns_in l.names) at x) l.all.items)
    (λ seen. map (λ x. update_under (columns_in l.names) seen x) (map (syntax.branch_of) (take l.branch-index l.branches)))
