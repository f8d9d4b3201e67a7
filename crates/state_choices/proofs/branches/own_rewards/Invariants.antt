use Rattle.std.proofs.Common.{◌≡◌, map, take, unwrap_or}
use Rattle.frac_core.specs.Fraction.{nought}
use Rattle.state_choices.specs.Views.{sum_of}
use Rattle.state_choices.proofs.branches.own_rewards.Given as goal

abbrev pub invariant-loop-reward : goal.invariant-loop-reward
invariant-loop-reward l = l.own.items ≡ map (λ m. unwrap_or (sum_of m).value nought) (take l.reward-index l.rewards)
