use Rattle.std.proofs.Common.{◌+◌, ◌<◌, ap, sym, subst, ◌∙◌, length, drop, find, Some, arith}
use Rattle.std.specs.Option.{IfSome, option_or}
use Rattle.name_rules.specs.Names.{under}
use Rattle.name_rules.proofs.Maps.{at}
use Rattle.path_carry.specs.Index.{pair_at, is_of_label}
use Rattle.path_carry.proofs.Places.{next_below, next_label, no_label, all_placed}
use Rattle.path_carry.proofs.index.places_of_labels.Goals as goal
use Rattle.path_carry.proofs.index.places_of_labels.Goals.{in-Some+in_ok-put_first-in-Some, in-None}

pub loop-i-init : goal.loop-i-init
loop-i-init c = record {
  found = λ x. ap (λ o. option_or (pair_at c.args.pairs.now o) (find (is_of_label x) c.args.pairs.now)) (at c.new-places.ensures x);
  below = λ x. subst (λ o. IfSome o (λ k. k < length c.args.pairs.now)) (sym (at c.new-places.ensures x)) tt;
}

pub loop-i-preserved : goal.loop-i-preserved
loop-i-preserved c = elim c.match-pair.branch [
  | in-Some+in_ok-put_first-in-Some w ↦ record {
    found = λ x.
        next_label c.args.pairs.now c.loop-i.i c.index-pairs-i.result (omega arith) c.index-pairs-i.is _ x _ _
        (ap (λ m. under m x) w.places-is ∙ at w.in_ok-put_first-in-Some.ensures x) (c.loop-i.invariant.below x) (ap Some w.as_str.ensures ∙ sym w.in-Some.is) (c.loop-i.invariant.found x);
    below = λ x.
        next_below c.args.pairs.now c.loop-i.i c.index-pairs-i.result (omega arith) c.index-pairs-i.is _ x _ _
        (ap (λ m. under m x) w.places-is ∙ at w.in_ok-put_first-in-Some.ensures x) (c.loop-i.invariant.below x);
  }
  | in-None w ↦ record {
    found = λ x.
        ap (λ m. option_or (pair_at c.args.pairs.now (under m x)) (find (is_of_label x) (drop (c.loop-i.i + 1) c.args.pairs.now))) w.places-is
        ∙ no_label c.args.pairs.now c.loop-i.i c.index-pairs-i.result (omega arith) c.index-pairs-i.is (sym w.in-None.is) x _ (c.loop-i.invariant.found x);
    below = λ x. subst (λ m. IfSome (under m x) (λ k. k < length c.args.pairs.now)) (sym w.places-is) (c.loop-i.invariant.below x);
  }
]

pub returns : goal.returns
returns c = λ x. all_placed (is_of_label x) c.args.pairs.now c.loop-i.i _ (omega arith) (c.loop-i.invariant.found x)
