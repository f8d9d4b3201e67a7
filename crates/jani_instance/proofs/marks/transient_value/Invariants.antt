use Rattle.std.proofs.Common.{◌≡◌, drop}
use Rattle.std.specs.List.{flat_map}
use Rattle.jani_instance.specs.Views.{IsIn, first_else, giver_values, setting_of}
use Rattle.jani_instance.proofs.marks.transient_value.Given as goal

abbrev pub invariant-loop-giver : goal.invariant-loop-giver
invariant-loop-giver l =
    IsIn (setting_of l.here) l.evaluation
    × (first_else l.transient.start (flat_map (giver_values (setting_of l.here)) l.transient.givers.items) ≡ first_else l.transient.start (flat_map (giver_values (setting_of l.here)) (drop l.giver-index l.transient.givers.items)))
