use Rattle.std.specs.Prelude.{List, ◌++◌}
use Rattle.std.proofs.Common.{◌∙◌, ap, sym}
use Rattle.std.specs.Borrow.{Bor}
use Rattle.prism_targets.specs.declared.rows.VectorRow.{VectorRow}
use Rattle.process_core.specs.Instance.{only_if}
use Rattle.edge_tables.specs.Tables.{Row, calls}
use Rattle.prism_targets.specs.Code.{row_view}
use Rattle.gathering.proofs.Loops.{kept_more}
use Rattle.prism_targets.proofs.served.by_action.Goals as goal

pub loop-row-preserved : goal.loop-row-preserved
loop-row-preserved c = λ x.
    c.in_ok-add_called.ensures x
    ∙ ap (λ (l : List Row). l ++ only_if (calls c.args.element x (row_view c.row-item.result.now)) (row_view c.row-item.result.now)) (c.loop-row.invariant x)
    ∙ sym (kept_more (calls c.args.element x) (λ (r : Bor VectorRow). row_view r.now) c.args.rows.now c.loop-row.row-index c.row-item.result c.loop-row-test.true c.row-item.is)
