use Rattle.std.proofs.Common.{◌≡◌, drop, length}
use Rattle.std.specs.List.{flat_map}
use Rattle.state_choices.specs.Apart.{taken_back}
use Rattle.state_choices.specs.Views.{updates_of}
use Rattle.state_choices.proofs.stepping.take_all_back.Given as goal

abbrev pub invariant-loop-update : goal.invariant-loop-update
invariant-loop-update l =
    (length l.values.items ≡ length l.from)
    × (taken_back l.from l.values.items (flat_map (λ u. u.writes) (updates_of (drop l.update-index l.updates))) ≡ taken_back l.from l.initial.values.items (flat_map (λ u. u.writes) (updates_of l.updates)))
