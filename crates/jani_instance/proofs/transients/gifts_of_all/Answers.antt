use Rattle.std.proofs.Common.{◌++◌, ap, map}
use Rattle.std.specs.List.{flat_map}
use Rattle.gathering.proofs.Loops.{numbered_all, numbered_step}
use Rattle.gathering.specs.Lists.{list_under}
use Rattle.process_core.specs.Instance.{numbered}
use Rattle.jani_tree.specs.Syntax.{location_of}
use Rattle.jani_instance.specs.Parts.{automaton_at}
use Rattle.jani_instance.specs.Shapes.{giver_at}
use Rattle.jani_instance.specs.Transients.{gift_by, gifts_by}
use Rattle.jani_instance.proofs.transients.gifts_of_all.Goals as goal

pub loop-i-init : goal.loop-i-init
loop-i-init c = λ x. ap (λ l. map giver_at l ++ numbered (gifts_by x) 0 (map automaton_at c.args.parts.now)) (c.new-all.ensures x)

pub loop-i-preserved : goal.loop-i-preserved
loop-i-preserved c = λ x.
    numbered_step (gifts_by x) automaton_at _ _ _ (numbered (λ n k. flat_map (gift_by x c.loop-i.i n) k.values) 0 (map location_of c.locations.result.now)) c.args.parts.now c.loop-i.i c.index-parts-i.result
    c.loop-i-test.true c.index-parts-i.is (c.loop-i.invariant x) (ap (numbered (λ n k. flat_map (gift_by x c.loop-i.i n) k.values) 0) c.locations.ensures) (c.in_ok-add_element.ensures x)

pub returns : goal.returns
returns c = λ x. numbered_all (gifts_by x) automaton_at _ (map giver_at (list_under c.loop-i.all x)) c.args.parts.now c.loop-i.i c.loop-i-test.false (c.loop-i.invariant x)
