use Rattle.std.specs.Prelude.{map}
use Rattle.gathering.proofs.Loops.{flat_next}
use Rattle.jani_tree.specs.Syntax as jani
use Rattle.jani_edges.specs.Code.{names_in, share_writes}
use Rattle.jani_edges.proofs.shares.add_sums.Goals as goal

pub loop-share-preserved : goal.loop-share-preserved
loop-share-preserved c =
    flat_next (share_writes (names_in c.args.names.now)) c.args.shares.now c.loop-share.share-index c.share-item.result (map jani.write_of c.args.all.now) _ _ c.loop-share-test.true c.share-item.is
    c.loop-share.invariant c.in_ok-add_sum.ensures
