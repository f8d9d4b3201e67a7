use Rattle.std.specs.Borrow.{Bor}
use Rattle.edge_tables.specs.declared.splits.VectorSplit.{VectorSplit}
use Rattle.edge_tables.specs.Counts.{names_split, weight}
use Rattle.edge_tables.specs.Code.{split_view}
use Rattle.edge_tables.proofs.Summing.{sum_kept}
use Rattle.edge_tables.proofs.counts.action_sums.Goals as goal

pub loop-split-preserved : goal.loop-split-preserved
loop-split-preserved c = λ x.
    sum_kept (weight c.args.number) (λ (s : Bor VectorSplit). split_view s.now) c.args.splits.now c.loop-split.split-index c.split-item.result c.loop-split-test.true c.split-item.is (names_split c.args.number x) _ _
    (c.loop-split.invariant x) (c.in_ok-add_action.ensures x)
