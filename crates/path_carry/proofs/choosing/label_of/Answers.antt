use Rattle.process_core.specs.Answers.{handed_on}
use Rattle.path_carry.proofs.choosing.label_of.Goals as goal

pub returns-in_err-choices : goal.returns-in_err-choices
returns-in_err-choices c = handed_on _ _ c.in_err-choices.field-0.0 c.from_residual.result c.from_residual.ensures.1 (c.in_err-choices.ensures c.args.from.now.values)
