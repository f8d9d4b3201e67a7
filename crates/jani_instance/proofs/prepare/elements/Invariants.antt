use Rattle.std.proofs.Common.{map, take}
use Rattle.expr_store.specs.Views.{nodes}
use Rattle.jani_instance.specs.Prepared.{IsPrepared, places_of, see_from}
use Rattle.jani_instance.specs.Shapes.{located_as}
use Rattle.jani_instance.proofs.prepare.elements.Given as goal

abbrev pub invariant-loop-one : goal.invariant-loop-one
invariant-loop-one l = IsPrepared (nodes l.initial.store) (nodes l.store) (λ look. map (λ p. map (located_as look) p.locations.items) l.all.items) (λ at. map (λ e. map (located_as (see_from (places_of e.own l.places) at)) e.locations.items) (take l.one-index l.these))
