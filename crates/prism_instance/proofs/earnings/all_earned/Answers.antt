use Rattle.std.proofs.Common.{ap, map, None, Some}
use Rattle.std.specs.List.{flat_map}
use Rattle.gathering.proofs.Loops.{numbered_all, numbered_step}
use Rattle.gathering.specs.Lists.{list_under}
use Rattle.prism_tree.specs.Syntax.{Rewards, item_of, rewards_of}
use Rattle.prism_instance.specs.Shapes.{earned_from, earnings}
use Rattle.prism_instance.specs.Sites.{earned_of}
use Rattle.prism_instance.proofs.earnings.all_earned.Goals as goal

pub loop-k-preserved : goal.loop-k-preserved
loop-k-preserved c =
    let rs = c.args.rewards.now in
    let r = c.index-rewards-k.result in
    let k = c.loop-k.k in
    record {
      silent = numbered_step (λ n (r : Rewards). flat_map (earned_from None n) r.items) rewards_of (earnings (map rewards_of rs) None) (map earned_of c.loop-k.all.silent.items) (map earned_of c.add_structure.new.all.silent.items)
          (flat_map (earned_from None k) (map item_of c.as_slice.result.now)) rs k r c.loop-k-test.true c.index-rewards-k.is c.loop-k.invariant.silent
          (ap (λ l. flat_map (earned_from None k) (map item_of l)) c.as_slice.ensures) c.in_ok-add_structure.ensures.silent;
      named = λ x. numbered_step (λ n (r : Rewards). flat_map (earned_from (Some x) n) r.items) rewards_of (earnings (map rewards_of rs) (Some x)) (map earned_of (list_under c.loop-k.all.named x)) (map earned_of (list_under c.add_structure.new.all.named x))
          (flat_map (earned_from (Some x) k) (map item_of c.as_slice.result.now)) rs k r c.loop-k-test.true c.index-rewards-k.is (c.loop-k.invariant.named x)
          (ap (λ l. flat_map (earned_from (Some x) k) (map item_of l)) c.as_slice.ensures) (c.in_ok-add_structure.ensures.named x);
    }

pub returns : goal.returns
returns c =
    let rs = c.args.rewards.now in
    record {
      silent = numbered_all (λ n (r : Rewards). flat_map (earned_from None n) r.items) rewards_of (earnings (map rewards_of rs) None) (map earned_of c.loop-k.all.silent.items) rs c.loop-k.k c.loop-k-test.false c.loop-k.invariant.silent;
      named = λ x. numbered_all (λ n (r : Rewards). flat_map (earned_from (Some x) n) r.items) rewards_of (earnings (map rewards_of rs) (Some x)) (map earned_of (list_under c.loop-k.all.named x)) rs c.loop-k.k c.loop-k-test.false (c.loop-k.invariant.named x);
    }
