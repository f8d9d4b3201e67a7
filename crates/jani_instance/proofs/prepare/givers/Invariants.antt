use Rattle.std.proofs.Common.{map, take}
use Rattle.expr_store.specs.Views.{nodes}
use Rattle.jani_instance.specs.Prepared.{IsPrepared, places_at, see_from}
use Rattle.jani_instance.specs.Shapes.{giver_as}
use Rattle.jani_instance.proofs.prepare.givers.Given as goal

abbrev pub invariant-loop-one : goal.invariant-loop-one
invariant-loop-one l = IsPrepared (nodes l.initial.store) (nodes l.store) (λ look. map (giver_as (λ i. look)) l.all.items) (λ at. map (giver_as (λ i. see_from (places_at l.elements l.places i) at)) (take l.one-index l.these))
