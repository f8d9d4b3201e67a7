use Rattle.name_rules.proofs.Append.{soonest_next}
use Rattle.name_rules.proofs.rule.judge_each.Goals as goal

pub loop-item-preserved : goal.loop-item-preserved
loop-item-preserved g c =
    soonest_next g.R.Rule.view (g.R.Rule.faults c.args.rule.now) c.args.items.now c.loop-item.item-index _ _ _ _
    c.loop-item-test.true c.item-item.is c.in_ok-best.ensures c.loop-item.invariant
