use Rattle.std.proofs.Common.{map, take}
use Rattle.expr_store.specs.Views.{nodes}
use Rattle.jani_instance.specs.Prepared.{IsPrepared, places_in, see_from}
use Rattle.jani_instance.specs.Shapes.{acting_as}
use Rattle.jani_instance.proofs.prepare.acting.Given as goal

abbrev pub invariant-loop-one : goal.invariant-loop-one
invariant-loop-one l = IsPrepared (nodes l.initial.store) (nodes l.store) (λ look. map (acting_as look) l.all.items) (λ at. map (acting_as (see_from (places_in l.scope) at)) (take l.one-index l.these))
