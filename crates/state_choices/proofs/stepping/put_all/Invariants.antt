use Rattle.std.proofs.Common.{◌≡◌, drop, length}
use Rattle.std.specs.List.{flat_map}
use Rattle.process_core.specs.Choices.{written}
use Rattle.state_choices.specs.Apart.{columns_apart}
use Rattle.state_choices.specs.Views.{updates_of}
use Rattle.state_choices.proofs.stepping.put_all.Given as goal

abbrev pub invariant-loop-update : goal.invariant-loop-update
invariant-loop-update l =
    (length l.values.items ≡ length l.to) × (l.left ≡ columns_apart l.values.items l.to)
    × (written l.values.items (flat_map (λ u. u.writes) (updates_of (drop l.update-index l.updates))) ≡ written l.initial.values.items (flat_map (λ u. u.writes) (updates_of l.updates)))
