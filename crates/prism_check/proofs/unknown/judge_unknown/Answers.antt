use Rattle.prism_check.specs.NameFaults.{unknown_by}
use Rattle.name_rules.specs.Names.{has_name}
use Rattle.prism_check.specs.Views.{demand_by}
use Rattle.name_rules.proofs.Append.{soonest_next}
use Rattle.prism_check.proofs.unknown.judge_unknown.Goals as goal

pub loop-demand-preserved : goal.loop-demand-preserved
loop-demand-preserved c =
    soonest_next demand_by (unknown_by (has_name c.args.known.now)) c.args.demands.now c.loop-demand.demand-index _ _ _ _
    c.loop-demand-test.true c.demand-item.is c.judge_demand-best.ensures c.loop-demand.invariant
