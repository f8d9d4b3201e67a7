use Rattle.std.proofs.Common.{refl}
use Rattle.gathering.specs.Lists.{list_under}
use Rattle.gathering.proofs.Loops.{kept_step}
use Rattle.jani_tree.specs.Syntax.{edge_of}
use Rattle.jani_meaning.specs.Loops.{has_name}
use Rattle.jani_loops.specs.Looped.{lent_edge}
use Rattle.jani_loops.proofs.edges.edges_by_action.Goals as goal

pub loop-e-preserved : goal.loop-e-preserved
loop-e-preserved c =
    let e = c.e-item.result in
    λ x.
    kept_step lent_edge (λ e. has_name x e.action) edge_of c.args.edges.now c.loop-e.e-index e _ (has_name x (edge_of e).action) (list_under c.loop-e.all x) (list_under c.add_acting.new.all x)
    c.loop-e-test.true c.e-item.is (c.loop-e.invariant x) refl refl (c.in_ok-add_acting.ensures x)
