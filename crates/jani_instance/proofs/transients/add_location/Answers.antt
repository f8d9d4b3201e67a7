use Rattle.std.proofs.Common.{◌∙◌, ◌++◌, sym, map, append-nil}
use Rattle.std.specs.List.{flat_map}
use Rattle.basics.specs.Lists.{at_take_all}
use Rattle.gathering.proofs.Loops.{flat_seen}
use Rattle.gathering.specs.Lists.{list_under}
use Rattle.jani_tree.specs.Syntax.{write_of}
use Rattle.jani_instance.specs.Shapes.{giver_at}
use Rattle.jani_instance.specs.Transients.{gift_by}
use Rattle.jani_instance.proofs.transients.add_location.Goals as goal

pub loop-value-init : goal.loop-value-init
loop-value-init c = λ x. sym (append-nil _)

pub loop-value-preserved : goal.loop-value-preserved
loop-value-preserved c = λ x.
    flat_seen (gift_by x c.args.i c.args.n) write_of c.args.values.now c.loop-value.value-index c.value-item.result _ _ _ c.loop-value-test.true c.value-item.is (c.loop-value.invariant x) (c.in_ok-add_value.ensures x)

pub returns : goal.returns
returns c = λ x.
    c.loop-value.invariant x
    ∙ at_take_all (λ l. map giver_at (list_under c.args.all.now x) ++ flat_map (gift_by x c.args.i c.args.n) (map write_of l)) c.args.values.now c.loop-value.value-index c.loop-value-test.false
