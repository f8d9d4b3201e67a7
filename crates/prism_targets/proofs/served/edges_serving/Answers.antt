use Rattle.edge_tables.specs.Tables.{edge_serves}
use Rattle.edge_tables.specs.Code.{ranked_view}
use Rattle.prism_targets.specs.Code.{edge_served}
use Rattle.gathering.proofs.Loops.{mapped_more}
use Rattle.prism_targets.proofs.served.edges_serving.Goals as goal

pub loop-e-preserved : goal.loop-e-preserved
loop-e-preserved c = λ rows h.
    mapped_more edge_served (edge_serves rows c.args.element c.args.first) ranked_view c.args.edges.now c.loop-e.all.items c.push.new.self.items c.loop-e.e-index c.e-item.result
    c.in_ok-edge_serving.field-0 c.loop-e-test.true c.e-item.is (c.loop-e.invariant rows h) (c.in_ok-edge_serving.ensures rows h) c.in_ok-push.ensures.items
