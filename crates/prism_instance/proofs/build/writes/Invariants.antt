use Rattle.std.proofs.Common.{map, take}
use Rattle.expr_store.specs.Alike.{IsMade}
use Rattle.expr_store.specs.Views.{nodes}
use Rattle.prism_tree.specs.Operators.{prism_meaning}
use Rattle.prism_instance.specs.Views.{columns_in, places_in}
use Rattle.prism_tree.specs.Syntax as syntax
use Rattle.network.specs.Views.{write_at}
use Rattle.prism_instance.specs.Shapes.{write_under}
use Rattle.prism_instance.proofs.build.writes.Given as goal

abbrev pub invariant-loop-write : goal.invariant-loop-write
invariant-loop-write l =
    IsMade prism_meaning (places_in l.names) (nodes l.fn.store) (nodes l.store) (λ at. map (λ x. write_at (columns_in l.names) at x) l.all.items)
    (λ seen. map (λ x. write_under (columns_in l.names) seen x) (map (syntax.write_of) (take l.write-index l.writes)))
