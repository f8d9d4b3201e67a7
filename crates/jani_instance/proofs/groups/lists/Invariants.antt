use Rattle.std.proofs.Common.{◌≡◌, map, take}
use Rattle.state_choices.specs.Views as choices
use Rattle.jani_instance.specs.Views.{member_of, part_at}
use Rattle.jani_instance.proofs.groups.lists.Given as goal

abbrev pub invariant-loop-link : goal.invariant-loop-link
invariant-loop-link l = map (λ m. map choices.command_of m.now) l.all.items ≡ map (part_at (map member_of l.members)) (take l.link-index l.links)
