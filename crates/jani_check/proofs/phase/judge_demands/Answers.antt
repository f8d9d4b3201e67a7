use Rattle.jani_check.specs.Scopes.{scope_thing}
use Rattle.jani_check.specs.Views.{demand_by}
use Rattle.name_rules.proofs.Append.{soonest_next}
use Rattle.jani_check.proofs.phase.judge_demands.Goals as goal

pub loop-demand-preserved : goal.loop-demand-preserved
loop-demand-preserved g c =
    soonest_next demand_by (g.P.Phase.of_demand (scope_thing c.args.scope.now)) c.args.demands.now c.loop-demand.demand-index _ _ _ _
    c.loop-demand-test.true c.demand-item.is c.judge_demand-best.ensures c.loop-demand.invariant
