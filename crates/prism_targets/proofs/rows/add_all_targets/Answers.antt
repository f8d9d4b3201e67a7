use Rattle.std.specs.Prelude.{map, vec_len}
use Rattle.prism_targets.specs.Made.{vector_made}
use Rattle.edge_tables.specs.Code.{split_view}
use Rattle.prism_targets.specs.Code.{row_view, target_view}
use Rattle.gathering.proofs.Loops.{flat_seen}
use Rattle.edge_tables.proofs.RowNumbers.{rows_more}
use Rattle.prism_targets.proofs.rows.add_all_targets.Goals as goal

pub loop-split-preserved : goal.loop-split-preserved
loop-split-preserved c = record {
  targets =
      flat_seen vector_made split_view c.args.splits.now c.loop-split.split-index c.split-item.result (map target_view c.args.all.now.items) _ _ c.loop-split-test.true c.split-item.is
      c.loop-split.invariant.targets c.in_ok-add_targets.ensures.targets;
  rows =
      rows_more row_view split_view c.args.splits.now c.loop-split.split-index (vec_len c.loop-split.all) (vec_len c.add_targets.new.all) c.split-item.result c.in_ok-add_targets.field-0 _ _ _
      c.loop-split-test.true c.split-item.is c.loop-split.invariant.rows c.in_ok-add_targets.ensures.row c.in_ok-add_targets.ensures.end c.in_ok-push.ensures.items;
}
