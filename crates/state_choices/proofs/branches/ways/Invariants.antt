use Rattle.std.proofs.Common.{◌≡◌, map, take}
use Rattle.state_choices.specs.Views.{command_of}
use Rattle.state_choices.specs.Views.{updates_of}
use Rattle.state_choices.proofs.branches.ways.Given as goal

abbrev pub invariant-loop-r : goal.invariant-loop-r
invariant-loop-r l = map (λ v. updates_of v.items) l.lists.items ≡ map (λ r. (command_of r.now).updates) (take l.r-index l.participants)
