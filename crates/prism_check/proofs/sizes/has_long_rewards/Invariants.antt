use Rattle.std.specs.Prelude.{◌≡◌, length, map, drop, nat_lt}
use Rattle.std.specs.List.{list_any}
use Rattle.prism_tree.specs.Syntax.{rewards_of}
use Rattle.prism_check.proofs.sizes.has_long_rewards.Given as goal

abbrev pub invariant-loop-rewards : goal.invariant-loop-rewards
invariant-loop-rewards l =
    list_any (λ r. nat_lt 1024 (length r.items)) (map rewards_of (drop l.rewards-index l.all))
    ≡ list_any (λ r. nat_lt 1024 (length r.items)) (map rewards_of l.all)
