use Rattle.gathering.proofs.Loops.{map_more}
use Rattle.state_choices.specs.Views.{update_of}
use Rattle.jani_instance.specs.Views.{columns_of, look_at, setting_of, update_seen}
use Rattle.jani_instance.proofs.edges.updates.Goals as goal

pub loop-destination-preserved : goal.loop-destination-preserved
loop-destination-preserved c =
    let k = setting_of c.args.here.now in (
      c.in_ok-update_of.ensures.0,
      map_more update_of (update_seen (columns_of k) (look_at k) c.args.i)
          c.args.destinations.now c.loop-destination.destination-index c.destination-item.result c.loop-destination.all c.push.new.self c.in_ok-update_of.field-0
          c.loop-destination-test.true c.destination-item.is c.loop-destination.invariant.1 c.in_ok-push.ensures.ok c.in_ok-update_of.ensures.1,
    )
