use Rattle.std.proofs.Common.{map, take}
use Rattle.expr_store.specs.Views.{nodes}
use Rattle.jani_instance.specs.Prepared.{IsPrepared, places_in, see_from}
use Rattle.jani_instance.specs.Shapes.{edge_as}
use Rattle.jani_instance.proofs.prepare.edges.Given as goal

abbrev pub invariant-loop-one : goal.invariant-loop-one
invariant-loop-one l = IsPrepared (nodes l.initial.store) (nodes l.store) (λ look. map (edge_as look) l.all.items) (λ at. map (edge_as (see_from (places_in l.scope) at)) (take l.one-index l.these))
