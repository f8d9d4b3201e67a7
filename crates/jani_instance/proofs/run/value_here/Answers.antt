use Rattle.std.proofs.Common.{◌∙◌, ap}
use Rattle.state_choices.specs.Trimmed.{computed}
use Rattle.jani_instance.specs.Views.{setting_of}
use Rattle.jani_instance.proofs.Values.{goes_on, sees_here}
use Rattle.jani_instance.proofs.run.value_here.Goals as goal

pub returns-clause-value : goal.returns-clause-value
returns-clause-value c = c.value.ensures.value ∙ ap computed (sees_here (setting_of c.args.here.now) c.args.evaluation.now c.args.id c.requires)

pub returns-clause-same : goal.returns-clause-same
returns-clause-same c = goes_on (setting_of c.args.here.now) c.args.evaluation.now _ c.requires c.value.ensures.same
