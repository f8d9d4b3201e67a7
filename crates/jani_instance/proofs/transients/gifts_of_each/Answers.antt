use Rattle.std.proofs.Common.{◌∙◌, ap, length, map}
use Rattle.std.specs.List.{flat_map}
use Rattle.basics.specs.Lists.{at_take_all}
use Rattle.process_core.specs.Instance.{numbered}
use Rattle.jani_instance.specs.Parts.{automaton_at}
use Rattle.jani_instance.specs.Transients.{gift_by, gifts_at}
use Rattle.jani_instance.proofs.Gifts.{longer, no_own, own_more}
use Rattle.jani_instance.proofs.transients.gifts_of_each.Goals as goal

pub loop-i-init : goal.loop-i-init
loop-i-init c = (ap length c.in_ok-all.ensures.items, λ k x. no_own c.in_ok-all.all.items k x c.in_ok-all.ensures.items)

pub loop-i-preserved : goal.loop-i-preserved
loop-i-preserved c = (
  longer c.loop-i.all.items c.push.new.self.items _ c.loop-i.i c.in_ok-push.ensures.items c.loop-i.invariant.0,
  λ k x. own_more c.args.parts.now c.loop-i.i c.index-parts-i.result k x c.loop-i.all.items c.push.new.self.items _ c.loop-i-test.true c.index-parts-i.is c.in_ok-push.ensures.items c.loop-i.invariant.0
      (c.loop-i.invariant.1 k x) (c.in_ok-gifts_of_one.ensures x ∙ ap (numbered (λ n l. flat_map (gift_by x c.loop-i.i n) l.values) 0) c.locations.ensures),
)

pub returns : goal.returns
returns c = λ k x. c.loop-i.invariant.1 k x ∙ at_take_all (λ l. gifts_at k x (map automaton_at l)) c.args.parts.now c.loop-i.i c.loop-i-test.false
