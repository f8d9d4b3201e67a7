use Rattle.std.proofs.Common.{◌≡◌, map, take}
use Rattle.state_choices.specs.Views.{group_of}
use Rattle.state_choices.specs.Members.{silent_of}
use Rattle.state_choices.proofs.groups.silent_groups.Given as goal

abbrev pub invariant-loop-member : goal.invariant-loop-member
invariant-loop-member l = map group_of l.groups.items ≡ map (silent_of l.rewards) (take l.member-index l.members)
