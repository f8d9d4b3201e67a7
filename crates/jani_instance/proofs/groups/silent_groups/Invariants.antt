use Rattle.std.proofs.Common.{◌≡◌, map, take}
use Rattle.state_choices.specs.Views as choices
use Rattle.jani_instance.specs.Views.{member_of, silent_group}
use Rattle.jani_instance.proofs.groups.silent_groups.Given as goal

abbrev pub invariant-loop-member : goal.invariant-loop-member
invariant-loop-member l = map choices.group_of l.groups.items ≡ map (silent_group (map choices.sum_of l.rewards)) (map member_of (take l.member-index l.members))
