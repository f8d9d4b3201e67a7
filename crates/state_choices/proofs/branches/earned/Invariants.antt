use Rattle.std.proofs.Common.{◌≡◌, map, drop}
use Rattle.std.specs.List.{flat_map}
use Rattle.process_core.specs.Choices.{assigned, own_rewards}
use Rattle.state_choices.specs.Views.{updates_of, sum_of}
use Rattle.state_choices.proofs.branches.earned.Given as goal

abbrev pub invariant-loop-update : goal.invariant-loop-update
invariant-loop-update l =
    assigned l.earned.items (flat_map (λ u. u.rewards) (updates_of (drop l.update-index l.updates))) ≡ assigned (own_rewards (map sum_of l.rewards)) (flat_map (λ u. u.rewards) (updates_of l.updates))
