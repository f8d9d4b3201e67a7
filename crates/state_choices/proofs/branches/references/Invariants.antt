use Rattle.std.proofs.Common.{◌≡◌, map, take}
use Rattle.state_choices.specs.Views.{update_of}
use Rattle.state_choices.specs.Views.{updates_of}
use Rattle.state_choices.proofs.branches.references.Given as goal

abbrev pub invariant-loop-update : goal.invariant-loop-update
invariant-loop-update l = updates_of l.all.items ≡ map update_of (take l.update-index l.updates)
