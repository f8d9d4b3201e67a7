use Rattle.gathering.proofs.Loops.{map_more}
use Rattle.state_choices.specs.Views.{command_of}
use Rattle.jani_instance.specs.Views.{columns_of, edge_seen, look_at, setting_of}
use Rattle.jani_instance.proofs.edges.commands.Goals as goal

pub loop-edge-preserved : goal.loop-edge-preserved
loop-edge-preserved c =
    let k = setting_of c.args.here.now in (
      c.in_ok-command_of.ensures.0,
      map_more command_of (edge_seen (columns_of k) (look_at k) c.args.i) c.args.edges.now c.loop-edge.edge-index c.edge-item.result c.loop-edge.all c.push.new.self c.in_ok-command_of.field-0
          c.loop-edge-test.true c.edge-item.is c.loop-edge.invariant.1 c.in_ok-push.ensures.ok c.in_ok-command_of.ensures.1,
    )
