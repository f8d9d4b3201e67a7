use Rattle.std.proofs.Common.{◌≡◌, ◌++◌, map, take}
use Rattle.state_choices.specs.Views.{group_of}
use Rattle.state_choices.specs.Members.{silent_of, of_action}
use Rattle.state_choices.proofs.groups.module_groups.Given as goal

abbrev pub invariant-loop-action : goal.invariant-loop-action
invariant-loop-action l = map group_of l.groups.items ≡ map (silent_of l.rewards) l.members ++ map (of_action l.members) (take l.action-index l.actions)
