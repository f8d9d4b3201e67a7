use Rattle.row_check.proofs.Numerals.{name_read_of, name_unread}
use Rattle.row_check.proofs.texts.name_of.Goals as goal

pub returns-in-Ok : goal.returns-in-Ok
returns-in-Ok c = name_read_of c.args.text.now c.in-Ok.text.now c.read_name.result c.in-Ok.ensures.cases.0 c.in-Ok.ensures.cases.1 c.read_name.ensures

pub returns-in-Err : goal.returns-in-Err
returns-in-Err c = name_unread c.args.text.now c.in-Err.ensures.cases.0
