use Rattle.std.proofs.Common.{◌≡◌, ◌∷◌, map, take}
use Rattle.state_choices.specs.Views as choices
use Rattle.jani_instance.specs.Views.{IsIn, columns_of, location_seen, look_at, setting_of, write_seen}
use Rattle.jani_instance.proofs.edges.writes.Given as goal

abbrev pub invariant-loop-assignment : goal.invariant-loop-assignment
invariant-loop-assignment l =
    IsIn (setting_of l.here) l.evaluation
    × (map choices.write_of l.all ≡ location_seen l.i l.destination.location ∷ map (write_seen (columns_of (setting_of l.here)) (look_at (setting_of l.here))) (take l.assignment-index l.assignments))
