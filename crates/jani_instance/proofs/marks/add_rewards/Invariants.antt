use Rattle.std.proofs.Common.{◌∷◌, []}
use Rattle.process_core.specs.Choices.{number_of}
use Rattle.process_core.specs.declared.data.Mark.TheVariants.{Number}
use Rattle.state_choices.specs.Views.{seen_of}
use Rattle.state_choices.proofs.Gathering.{IsGathered}
use Rattle.jani_instance.specs.Views.{IsIn, setting_of, transient_value}
use Rattle.jani_instance.proofs.marks.add_rewards.Given as goal

abbrev pub invariant-loop-structure : goal.invariant-loop-structure
invariant-loop-structure l =
    IsIn (setting_of l.here) l.evaluation
    × IsGathered (λ t. (seen_of (transient_value (setting_of l.here) t)).wide) (λ t. Number (number_of (seen_of (transient_value (setting_of l.here) t)).value) ∷ []) l.structures l.initial.marks l.structure-index l.marks
