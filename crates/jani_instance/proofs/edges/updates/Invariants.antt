use Rattle.std.proofs.Common.{◌≡◌, map, take}
use Rattle.state_choices.specs.Views as choices
use Rattle.jani_instance.specs.Views.{IsIn, columns_of, look_at, setting_of, update_seen}
use Rattle.jani_instance.proofs.edges.updates.Given as goal

abbrev pub invariant-loop-destination : goal.invariant-loop-destination
invariant-loop-destination l = IsIn (setting_of l.here) l.evaluation × (map choices.update_of l.all ≡ map (update_seen (columns_of (setting_of l.here)) (look_at (setting_of l.here)) l.i) (take l.destination-index l.destinations))
