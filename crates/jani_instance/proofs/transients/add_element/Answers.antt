use Rattle.std.proofs.Common.{ap, map}
use Rattle.std.specs.List.{flat_map}
use Rattle.gathering.proofs.Loops.{numbered_all, numbered_step}
use Rattle.gathering.specs.Lists.{list_under}
use Rattle.jani_tree.specs.Syntax.{Location, location_of, write_of}
use Rattle.jani_instance.specs.Shapes.{giver_at}
use Rattle.jani_instance.specs.Transients.{gift_by}
use Rattle.jani_instance.proofs.transients.add_element.Goals as goal

pub loop-n-preserved : goal.loop-n-preserved
loop-n-preserved c = λ x.
    numbered_step (λ n (k : Location). flat_map (gift_by x c.args.i n) k.values) location_of _ _ _ (flat_map (gift_by x c.args.i c.loop-n.n) (map write_of c.as_slice.result.now)) c.args.locations.now c.loop-n.n
    c.index-locations-n.result c.loop-n-test.true c.index-locations-n.is (c.loop-n.invariant x) (ap (λ l. flat_map (gift_by x c.args.i c.loop-n.n) (map write_of l)) c.as_slice.ensures) (c.in_ok-add_location.ensures x)

pub returns : goal.returns
returns c = λ x.
    numbered_all (λ n (k : Location). flat_map (gift_by x c.args.i n) k.values) location_of _ (map giver_at (list_under c.loop-n.all x)) c.args.locations.now c.loop-n.n c.loop-n-test.false (c.loop-n.invariant x)
