use Rattle.std.proofs.Common.{map, drop}
use Rattle.process_core.specs.Choices.{weight_of}
use Rattle.state_choices.specs.Views.{update_of}
use Rattle.state_choices.proofs.Partial.{IsSoFar, products_run}
use Rattle.state_choices.proofs.branches.product.Given as goal

abbrev pub invariant-loop-u : goal.invariant-loop-u
invariant-loop-u l = IsSoFar products_run (map (λ u. weight_of (update_of u.now)) l.updates) (map (λ u. weight_of (update_of u.now)) (drop l.u-index l.updates)) l.weight
