use Rattle.std.proofs.Common.{◌≡◌, ◌++◌, map, take}
use Rattle.state_choices.specs.Views.{group_of}
use Rattle.state_choices.specs.Members.{silent_of, of_vector}
use Rattle.state_choices.proofs.groups.element_groups.Given as goal

abbrev pub invariant-loop-vector : goal.invariant-loop-vector
invariant-loop-vector l = map group_of l.groups.items ≡ map (silent_of l.rewards) l.members ++ map (of_vector l.rewards l.members) (take l.vector-index l.vectors)
