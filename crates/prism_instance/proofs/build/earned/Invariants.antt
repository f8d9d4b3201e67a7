use Rattle.std.proofs.Common.{map, take}
use Rattle.expr_store.specs.Alike.{IsMade}
use Rattle.expr_store.specs.Views.{nodes}
use Rattle.prism_tree.specs.Operators.{prism_meaning}
use Rattle.prism_instance.specs.Views.{places_in}
use Rattle.instance_start.specs.Numbered.{with_value}
use Rattle.network.specs.Views.{earned_at}
use Rattle.prism_instance.specs.Shapes.{item_under}
use Rattle.prism_instance.specs.Sites.{earned_of}
use Rattle.prism_instance.proofs.build.earned.Given as goal

abbrev pub invariant-loop-one : goal.invariant-loop-one
invariant-loop-one l =
    IsMade prism_meaning (places_in l.names) (nodes l.fn.store) (nodes l.store) (λ at. map (λ x. earned_at at x) l.all.items)
    (λ seen. map (λ x. with_value (item_under seen) x) (map (earned_of) (take l.one-index l.these)))
