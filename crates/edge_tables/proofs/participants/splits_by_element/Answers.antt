use Rattle.std.specs.Borrow.{Bor}
use Rattle.std.proofs.Common.{◌∙◌, refl, sym}
use Rattle.process_core.specs.Product.{map-map}
use Rattle.gathering.specs.Lists.{list_for}
use Rattle.gathering.proofs.Loops.{kept_step}
use Rattle.edge_tables.specs.declared.splits.VectorSplit.{VectorSplit}
use Rattle.edge_tables.specs.Tables.{is_participant}
use Rattle.edge_tables.specs.Code.{split_view}
use Rattle.edge_tables.proofs.participants.splits_by_element.Goals as goal

pub loop-split-preserved : goal.loop-split-preserved
loop-split-preserved c = λ k.
    sym (map-map split_view (λ (x : Bor VectorSplit). x.now) (list_for c.add_for_each.new.all k))
    ∙ kept_step split_view (is_participant k) split_view c.args.splits.now c.loop-split.split-index c.split-item.result c.split-item.result _ _ _ c.loop-split-test.true c.split-item.is
    (map-map split_view (λ (x : Bor VectorSplit). x.now) (list_for c.loop-split.all k) ∙ c.loop-split.invariant k) refl refl (c.in_ok-add_for_each.ensures k)
