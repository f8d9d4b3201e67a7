use Rattle.std.proofs.Common.{map, take}
use Rattle.expr_store.specs.Alike.{IsMade}
use Rattle.expr_store.specs.Views.{nodes}
use Rattle.prism_tree.specs.Operators.{prism_meaning}
use Rattle.prism_instance.specs.Views.{columns_in, places_in}
use Rattle.instance_start.specs.Numbered.{with_value}
use Rattle.network.specs.Combined.{erased}
use Rattle.network.specs.Views.{acting_at}
use Rattle.prism_instance.specs.Shapes.{command_under}
use Rattle.prism_instance.specs.Sites.{acted_of}
use Rattle.prism_instance.proofs.build.acting.Given as goal

abbrev pub invariant-loop-one : goal.invariant-loop-one
invariant-loop-one l =
    IsMade prism_meaning (places_in l.names) (nodes l.fn.store) (nodes l.store) (λ at. map (λ x. acting_at (columns_in l.names) at x) l.all.items)
    (λ seen. map (λ x. with_value (λ k. erased (command_under (columns_in l.names) seen k)) x) (map (acted_of) (take l.one-index l.these)))
