use Rattle.std.proofs.Common.{◌≡◌, map, drop}
use Rattle.process_core.specs.Choices.{assigned}
use Rattle.state_choices.specs.Views.{reward_of}
use Rattle.state_choices.proofs.branches.assign.Given as goal

abbrev pub invariant-loop-r : goal.invariant-loop-r
invariant-loop-r l = assigned l.earned.items (map reward_of (drop l.r-index l.rewards)) ≡ assigned l.initial.earned.items (map reward_of l.rewards)
