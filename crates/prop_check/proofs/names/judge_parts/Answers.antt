use Rattle.name_rules.proofs.Append.{soonest_next}
use Rattle.prop_trees.specs.PrismFaults.{unknown_in}
use Rattle.prop_check.specs.Views.{part_of}
use Rattle.prop_check.proofs.names.judge_parts.Goals as goal

pub loop-part-preserved : goal.loop-part-preserved
loop-part-preserved c =
    soonest_next part_of (unknown_in c.args.scope.now.file) c.args.parts.now c.loop-part.part-index _ c.loop-part.best _ _
    c.loop-part-test.true c.part-item.is c.judge_expression-best.ensures c.loop-part.invariant
