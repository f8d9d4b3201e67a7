use Rattle.std.proofs.Common.{ap, map, List, Option}
use Rattle.op_trees.specs.Seen.{Seen}
use Rattle.jani_instance.specs.Prepared.{places_in, see_from}
use Rattle.jani_instance.specs.Shapes.{Assigned, assigned_as}
use Rattle.jani_instance.proofs.Prepared.{prepared_from, prepared_three}
use Rattle.jani_instance.proofs.prepare.destination.Goals as goal

pub returns : goal.returns
returns c =
    prepared_three (λ (w : Option Seen) (ws rs : List (Assigned Seen)). record { location = c.args.one.now.location; weight = w; writes = ws; rewards = rs }) _ _ _ _ _ _ _ _ _ _
    c.in_ok-weight.ensures
    (prepared_from _ _ _ _ _ (λ at. ap (map (assigned_as (see_from (places_in c.args.scope.now) at))) c.as_slice.ensures.value) c.in_ok-writes.ensures)
    (prepared_from _ _ _ _ _ (λ at. ap (map (assigned_as (see_from (places_in c.args.scope.now) at))) c.as_slice-2.ensures.value) c.in_ok-rewards.ensures)
