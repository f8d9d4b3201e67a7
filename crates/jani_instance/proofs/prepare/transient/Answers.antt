use Rattle.std.proofs.Common.{ap, map, List}
use Rattle.op_trees.specs.Seen.{Seen}
use Rattle.jani_instance.specs.Prepared.{places_at, see_from}
use Rattle.jani_instance.specs.Shapes.{Giver, giver_as}
use Rattle.jani_instance.proofs.Prepared.{prepared_from, prepared_whole}
use Rattle.jani_instance.proofs.prepare.transient.Goals as goal

pub returns : goal.returns
returns c =
    prepared_whole (λ (gs : List (Giver Seen)). record { name = c.args.one.now.name.now; start = c.args.one.now.start; givers = gs }) _ _ _ _
    (prepared_from _ _ _ _ _ (λ at. ap (map (giver_as (λ i. see_from (places_at c.args.elements.now c.args.places.now i) at))) c.as_slice.ensures.value) c.in_ok-givers.ensures)
