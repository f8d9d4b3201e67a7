use Rattle.std.proofs.Common.{◌∙◌, ap, refl}
use Rattle.std.specs.Prelude.{nat_eq}
use Rattle.gathering.proofs.Loops.{kept_step}
use Rattle.gathering.specs.Lists.{list_for}
use Rattle.jani_tree.specs.Syntax.{edge_of}
use Rattle.jani_instance.specs.Actions.{lent_edge, starts_at}
use Rattle.jani_instance.specs.Shapes.{location_in}
use Rattle.jani_instance.proofs.located.by_location.Goals as goal

pub loop-edge-preserved : goal.loop-edge-preserved
loop-edge-preserved c =
    let e = c.edge-item.result in
    let s = c.args.site.now in
    λ n.
    kept_step lent_edge (starts_at s n) edge_of c.args.these.now c.loop-edge.edge-index e _ (nat_eq n c.location_in.result) (list_for c.loop-edge.all n) (list_for c.add.new.self n)
    c.loop-edge-test.true c.edge-item.is (c.loop-edge.invariant n) refl (ap (nat_eq n) (c.location_in.ensures ∙ ap (location_in s) c.as_str.ensures)) (c.in_ok-add.ensures n)
