use Rattle.std.proofs.Common.{◌∷◌, []}
use Rattle.process_core.specs.Choices.{truth_of}
use Rattle.process_core.specs.declared.data.Mark.TheVariants.{Truth}
use Rattle.state_choices.specs.Views.{seen_of}
use Rattle.state_choices.proofs.Gathering.{IsGathered}
use Rattle.jani_instance.specs.Views.{IsIn, setting_of, transient_value}
use Rattle.jani_instance.proofs.marks.add_labels.Given as goal

abbrev pub invariant-loop-label : goal.invariant-loop-label
invariant-loop-label l =
    IsIn (setting_of l.here) l.evaluation
    × IsGathered (λ t. (seen_of (transient_value (setting_of l.here) t)).wide) (λ t. Truth (truth_of (seen_of (transient_value (setting_of l.here) t)).value) ∷ []) l.labels l.initial.marks l.label-index l.marks
