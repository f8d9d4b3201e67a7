use Rattle.process_core.specs.Answers.{handed_on}
use Rattle.state_choices.proofs.choices.choices_of.Goals as goal

pub returns-in_err-these : goal.returns-in_err-these
returns-in_err-these c = handed_on _ _ c.in_err-these.field-0.0 c.from_residual.result c.from_residual.ensures.1 (c.in_err-these.ensures c.args.s.now.values)
