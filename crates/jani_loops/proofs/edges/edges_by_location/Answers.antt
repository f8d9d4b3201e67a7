use Rattle.std.specs.Prelude.{bytes_eq}
use Rattle.std.proofs.Common.{refl, ap}
use Rattle.op_trees.specs.Names.{is_called}
use Rattle.gathering.specs.Lists.{list_under}
use Rattle.gathering.proofs.Loops.{kept_step}
use Rattle.jani_loops.specs.Looped.{lent_edge}
use Rattle.jani_loops.proofs.edges.edges_by_location.Goals as goal

pub loop-e-preserved : goal.loop-e-preserved
loop-e-preserved c =
    let e = c.e-item.result in
    λ x.
    kept_step lent_edge (λ e. is_called x e.location) lent_edge c.args.edges.now c.loop-e.e-index e e _ (list_under c.loop-e.all x) (list_under c.add.new.self x)
    c.loop-e-test.true c.e-item.is (c.loop-e.invariant x) refl (ap (λ n. bytes_eq n x) c.as_str.ensures) (c.in_ok-add.ensures x)
