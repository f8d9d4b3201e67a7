use Rattle.row_check.proofs.Numerals.{not_utf8_number}
use Rattle.row_check.proofs.texts.number_of.Goals as goal

pub returns-in-Err : goal.returns-in-Err
returns-in-Err c = not_utf8_number c.args.text.now c.in-Err.ensures.cases.0
