use Rattle.jani_table.proofs.Walk.{rows_next}
use Rattle.jani_table.proofs.shape.judge_missing.Goals as goal

pub loop-row-preserved : goal.loop-row-preserved
loop-row-preserved c = rows_next _ _ _ _ _ _ _ _ c.judge_row-best.ensures c.loop-row.invariant c.loop-row-test.true
