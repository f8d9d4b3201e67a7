use Rattle.std.proofs.Common.{◌≡◌, ℕ, map, take}
use Rattle.gathering.specs.Lists.{list_for}
use Rattle.state_choices.specs.Views as choices
use Rattle.instance_start.specs.Numbered.{of_number}
use Rattle.jani_instance.specs.Views.{IsIn, acting_seen, columns_of, look_at, setting_of}
use Rattle.jani_instance.proofs.groups.acting.Given as goal

abbrev pub invariant-loop-one : goal.invariant-loop-one
invariant-loop-one l =
    IsIn (setting_of l.here) l.evaluation
    × ((k : ℕ) → map choices.command_of (list_for l.all k) ≡ of_number k (map (acting_seen (columns_of (setting_of l.here)) (look_at (setting_of l.here)) l.i) (take l.one-index l.these)))
