use Rattle.std.proofs.Common.{ap, ◌∙◌}
use Rattle.jani_table.specs.Node.{fields}
use Rattle.name_rules.specs.Least.{soonest}
use Rattle.jani_props.specs.Table.{operand_row}
use Rattle.jani_props.specs.Shape.{row_faults}
use Rattle.jani_props.proofs.Walk.{rows_next}
use Rattle.jani_props.proofs.shape.judge_operands.Goals as goal

pub loop-row-preserved : goal.loop-row-preserved
loop-row-preserved c =
    rows_next operand_row _ _ _ _ _ _ _ _ (c.judge_row-best.ensures ∙ ap (λ r. soonest c.loop-row.best (row_faults (fields c.args.members.now) c.args.close r)) c.operand_row.ensures)
    c.loop-row.invariant c.loop-row-test.true
