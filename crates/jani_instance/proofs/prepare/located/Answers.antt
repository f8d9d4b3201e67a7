use Rattle.std.proofs.Common.{ap, map, List}
use Rattle.op_trees.specs.Seen.{Seen}
use Rattle.jani_instance.specs.Prepared.{places_in, see_from}
use Rattle.instance_start.specs.Numbered.{Numbered, by_number}
use Rattle.jani_instance.specs.Shapes.{Edge, acting_as, edge_as}
use Rattle.jani_instance.proofs.Prepared.{prepared_from, prepared_two}
use Rattle.jani_instance.proofs.prepare.located.Goals as goal

pub returns : goal.returns
returns c =
    prepared_two (λ (s : List (Edge Seen)) (ys : List (Numbered (Edge Seen))). record { silent = s; parts = by_number c.args.one.now.actions ys }) _ _ _ _ _ _ _
    (prepared_from _ _ _ _ _ (λ at. ap (map (edge_as (see_from (places_in c.args.scope.now) at))) c.as_slice.ensures.value) c.in_ok-silent.ensures)
    (prepared_from _ _ _ _ _ (λ at. ap (map (acting_as (see_from (places_in c.args.scope.now) at))) c.as_slice-2.ensures.value) c.in_ok-acting.ensures)
