use Rattle.row_check.proofs.Parts.{none_before}
use Rattle.row_check.proofs.texts.number_before_space.Goals as goal

pub returns-in-None : goal.returns-in-None
returns-in-None c = none_before c.args.text.now c.in_ok-number.number.now c.in_ok-number.rest.now c.in_ok-number.ensures.0 c.in_ok-number.ensures.1 c.in-None.ensures
