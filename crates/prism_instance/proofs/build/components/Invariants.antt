use Rattle.std.proofs.Common.{map, take}
use Rattle.expr_store.specs.Alike.{IsMade}
use Rattle.expr_store.specs.Views.{nodes}
use Rattle.prism_tree.specs.Operators.{prism_meaning}
use Rattle.prism_instance.specs.Views.{columns_in, places_in}
use Rattle.process_core.specs.Ready.{Values}
use Rattle.network.specs.Views.{component_at}
use Rattle.prism_instance.specs.Sites.{member_under, sorted_of}
use Rattle.prism_instance.proofs.build.components.Given as goal

abbrev pub invariant-loop-one : goal.invariant-loop-one
invariant-loop-one l =
    (s : Values) → IsMade prism_meaning (places_in l.names) (nodes l.fn.store) (nodes l.store) (λ at. map (λ x. component_at (columns_in l.names) at s x) l.all.items)
    (λ seen. map (λ x. member_under (columns_in l.names) seen x) (map (sorted_of) (take l.one-index l.modules)))
