use Rattle.name_rules.proofs.Append.{soonest_next}
use Rattle.prop_trees.specs.PrismFaults.{part_faults}
use Rattle.prop_check.specs.Views.{part_of}
use Rattle.prop_check.proofs.types.judge_types.Goals as goal

pub loop-part-preserved : goal.loop-part-preserved
loop-part-preserved c =
    soonest_next part_of (part_faults c.args.scope.now.file) c.args.parts.now c.loop-part.part-index _ c.loop-part.best _ _
    c.loop-part-test.true c.part-item.is c.judge_part-best.ensures c.loop-part.invariant
