use Rattle.std.proofs.Common.{ap, map, List, Option}
use Rattle.op_trees.specs.Seen.{Seen}
use Rattle.jani_instance.specs.Prepared.{places_in, see_from}
use Rattle.jani_instance.specs.Shapes.{Destination, destination_as}
use Rattle.jani_instance.proofs.Prepared.{prepared_from, prepared_two}
use Rattle.jani_instance.proofs.prepare.edge.Goals as goal

pub returns : goal.returns
returns c =
    prepared_two (λ (g : Option Seen) (ds : List (Destination Seen)). record { guard = g; destinations = ds }) _ _ _ _ _ _ _
    c.in_ok-guard.ensures
    (prepared_from _ _ _ _ _ (λ at. ap (map (destination_as (see_from (places_in c.args.scope.now) at))) c.as_slice.ensures.value) c.in_ok-destinations.ensures)
