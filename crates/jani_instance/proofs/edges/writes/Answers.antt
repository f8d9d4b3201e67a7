use Rattle.std.proofs.Common.{◌∙◌, ◌∷◌, ap, map}
use Rattle.basics.specs.Lists.{at_take_all}
use Rattle.jani_instance.specs.Views.{columns_of, location_seen, look_at, setting_of, write_seen}
use Rattle.jani_instance.proofs.edges.writes.Goals as goal

pub returns : goal.returns
returns c =
    let k = setting_of c.args.here.now in
    let f = write_seen (columns_of k) (look_at k) in
    let z = location_seen c.args.i c.args.destination.now.location in (
      c.loop-assignment.invariant.0,
      c.loop-assignment.invariant.1
          ∙ at_take_all (λ l. z ∷ map f l) c.as_slice-assignments.result.now c.loop-assignment.assignment-index c.loop-assignment-test.false
          ∙ ap (λ l. z ∷ map f l) c.as_slice-assignments.ensures.value,
    )
