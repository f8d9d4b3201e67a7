use Rattle.jani_props.proofs.Walk.{own_next}
use Rattle.jani_props.proofs.shape.judge_own_rows.Goals as goal

pub loop-row-preserved : goal.loop-row-preserved
loop-row-preserved c = own_next _ _ _ _ _ _ _ _ c.judge_row-best.ensures c.loop-row.invariant c.loop-row-test.true
