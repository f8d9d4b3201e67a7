use Rattle.std.proofs.Common.{◌≡◌, map, take}
use Rattle.std.proofs.Common.{◌++◌}
use Rattle.state_choices.specs.Views as choices
use Rattle.jani_instance.specs.Views.{member_of, silent_group, vector_group}
use Rattle.jani_instance.proofs.groups.groups.Given as goal

abbrev pub invariant-loop-vector : goal.invariant-loop-vector
invariant-loop-vector l = map choices.group_of l.groups.items ≡ map (silent_group (map choices.sum_of l.rewards)) (map member_of l.members) ++ map (vector_group (map choices.sum_of l.rewards) (map member_of l.members)) (take l.vector-index l.vectors)
