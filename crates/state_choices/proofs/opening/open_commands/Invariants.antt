use Rattle.std.proofs.Common.{◌≡◌, map, take}
use Rattle.std.specs.List.{filter}
use Rattle.state_choices.specs.Views.{command_of, participants_of}
use Rattle.state_choices.specs.Counted.{may_hold}
use Rattle.state_choices.proofs.opening.open_commands.Given as goal

abbrev pub invariant-loop-r : goal.invariant-loop-r
invariant-loop-r l = participants_of l.open.items ≡ filter may_hold (map command_of (take l.r-index l.list))
