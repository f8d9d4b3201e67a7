use Rattle.std.proofs.Common.{map, drop}
use Rattle.process_core.specs.Choices.{weight_of}
use Rattle.state_choices.specs.Views.{update_of}
use Rattle.state_choices.proofs.Partial.{IsSoFar, sums_run}
use Rattle.state_choices.proofs.faults.total.Given as goal

abbrev pub invariant-loop-u : goal.invariant-loop-u
invariant-loop-u l = IsSoFar sums_run (map (λ u. weight_of (update_of u)) l.updates) (map (λ u. weight_of (update_of u)) (drop l.u-index l.updates)) l.sum
