use Rattle.std.specs.Borrow.{Bor}
use Rattle.std.proofs.Common.{◌∙◌, refl, sym}
use Rattle.process_core.specs.Product.{map-map}
use Rattle.gathering.specs.Lists.{list_for}
use Rattle.gathering.proofs.Loops.{kept_step}
use Rattle.prism_targets.specs.declared.rows.VectorRow.{VectorRow}
use Rattle.edge_tables.specs.Tables.{Row, is_participant}
use Rattle.prism_targets.specs.Code.{row_view}
use Rattle.prism_targets.proofs.participants.rows_by_element.Goals as goal

pub loop-row-preserved : goal.loop-row-preserved
loop-row-preserved c = λ k.
    sym (map-map row_view (λ (x : Bor VectorRow). x.now) (list_for c.add_for_each.new.all k))
    ∙ kept_step row_view (λ (r : Row). is_participant k r.split) row_view c.args.rows.now c.loop-row.row-index c.row-item.result c.row-item.result _ _ _ c.loop-row-test.true c.row-item.is
    (map-map row_view (λ (x : Bor VectorRow). x.now) (list_for c.loop-row.all k) ∙ c.loop-row.invariant k) refl refl (c.in_ok-add_for_each.ensures k)
