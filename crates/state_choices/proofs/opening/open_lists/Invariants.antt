use Rattle.std.proofs.Common.{◌≡◌, map, take}
use Rattle.std.specs.List.{filter}
use Rattle.state_choices.specs.Views.{command_of, participants_of}
use Rattle.state_choices.specs.Counted.{may_hold}
use Rattle.state_choices.proofs.opening.open_lists.Given as goal

abbrev pub invariant-loop-list : goal.invariant-loop-list
invariant-loop-list l = map (λ v. participants_of v.items) l.lists.items ≡ map (λ m. filter may_hold (map command_of m.now)) (take l.list-index l.list-items)
