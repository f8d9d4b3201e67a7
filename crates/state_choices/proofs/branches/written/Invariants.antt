use Rattle.std.proofs.Common.{◌≡◌, drop}
use Rattle.std.specs.List.{flat_map}
use Rattle.process_core.specs.Choices.{written}
use Rattle.state_choices.specs.Views.{updates_of}
use Rattle.state_choices.proofs.branches.written.Given as goal

abbrev pub invariant-loop-update : goal.invariant-loop-update
invariant-loop-update l = written l.values.items (flat_map (λ u. u.writes) (updates_of (drop l.update-index l.updates))) ≡ written l.s (flat_map (λ u. u.writes) (updates_of l.updates))
