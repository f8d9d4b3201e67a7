use Rattle.prism_check.specs.Typing.{faults_in}
use Rattle.prism_check.specs.Views.{demand_by}
use Rattle.prism_check.proofs.TypesPlaced.{at_next}
use Rattle.prism_check.proofs.types.judge_demands.Goals as goal

pub loop-demand-preserved : goal.loop-demand-preserved
loop-demand-preserved c =
    at_next c.args.spot.place demand_by (faults_in c.args.names.now c.args.spot.number) c.args.demands.now c.loop-demand.demand-index _ c.loop-demand.best _ _
    c.loop-demand-test.true c.demand-item.is c.judge_demand-best.ensures c.loop-demand.invariant
