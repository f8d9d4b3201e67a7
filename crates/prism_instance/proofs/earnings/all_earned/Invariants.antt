use Rattle.std.proofs.Common.{◌≡◌, ◌++◌, List, ℕ, map, drop, None, Some}
use Rattle.std.specs.List.{flat_map}
use Rattle.gathering.specs.Lists.{list_under}
use Rattle.process_core.specs.Instance.{numbered}
use Rattle.prism_tree.specs.Syntax.{rewards_of}
use Rattle.prism_instance.specs.Shapes.{earned_from, earnings}
use Rattle.prism_instance.specs.Sites.{earned_of}
use Rattle.prism_instance.proofs.earnings.all_earned.Given as goal

abbrev pub invariant-loop-k : goal.invariant-loop-k
invariant-loop-k l = record {
  silent : map earned_of l.all.silent.items ++ numbered (λ k r. flat_map (earned_from None k) r.items) l.k (map rewards_of (drop l.k l.rewards)) ≡ earnings (map rewards_of l.rewards) None;
  named : (x : List ℕ) → map earned_of (list_under l.all.named x) ++ numbered (λ k r. flat_map (earned_from (Some x) k) r.items) l.k (map rewards_of (drop l.k l.rewards))
      ≡ earnings (map rewards_of l.rewards) (Some x);
}
