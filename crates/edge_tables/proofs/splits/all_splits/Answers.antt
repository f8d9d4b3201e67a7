use Rattle.std.specs.Prelude.{map}
use Rattle.jani_tree.specs.Syntax.{vector_of}
use Rattle.edge_tables.specs.Tables.{split_from}
use Rattle.edge_tables.specs.Code.{table_view, split_view}
use Rattle.gathering.proofs.Loops.{mapped_more}
use Rattle.edge_tables.proofs.splits.all_splits.Goals as goal

pub loop-v-preserved : goal.loop-v-preserved
loop-v-preserved c =
    mapped_more split_view (λ v. split_from v 0 (map table_view c.args.elements.now)) vector_of c.args.vectors.now c.loop-v.all.items c.push.new.self.items c.loop-v.v-index c.v-item.result c.split.result
    c.loop-v-test.true c.v-item.is c.loop-v.invariant c.split.ensures c.in_ok-push.ensures.items
