use Rattle.std.proofs.Common.{◌<◌, ap, sym, subst, length, find, arith}
use Rattle.std.specs.Option.{IfSome, option_or}
use Rattle.name_rules.proofs.Maps.{at}
use Rattle.path_carry.specs.Index.{pair_at, is_of_action}
use Rattle.path_carry.proofs.Places.{next_below, next_action, all_placed}
use Rattle.path_carry.proofs.index.places_of_actions.Goals as goal

pub loop-i-init : goal.loop-i-init
loop-i-init c = record {
  found = λ x. ap (λ o. option_or (pair_at c.args.pairs.now o) (find (is_of_action x) c.args.pairs.now)) (at c.new-places.ensures x);
  below = λ x. subst (λ o. IfSome o (λ k. k < length c.args.pairs.now)) (sym (at c.new-places.ensures x)) tt;
}

pub loop-i-preserved : goal.loop-i-preserved
loop-i-preserved c = record {
  found = λ x.
      next_action c.args.pairs.now c.loop-i.i c.index-pairs-i.result (omega arith) c.index-pairs-i.is _ x _ _ (at c.in_ok-put_first.ensures x) (c.loop-i.invariant.below x) c.as_str.ensures (c.loop-i.invariant.found x);
  below = λ x.
      next_below c.args.pairs.now c.loop-i.i c.index-pairs-i.result (omega arith) c.index-pairs-i.is _ x _ _ (at c.in_ok-put_first.ensures x) (c.loop-i.invariant.below x);
}

pub returns : goal.returns
returns c = λ x. all_placed (is_of_action x) c.args.pairs.now c.loop-i.i _ (omega arith) (c.loop-i.invariant.found x)
