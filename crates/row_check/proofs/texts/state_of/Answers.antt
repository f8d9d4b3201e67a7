use Rattle.row_check.proofs.Numerals.{state_read_of, state_unread}
use Rattle.row_check.proofs.texts.state_of.Goals as goal

pub returns-in-Ok : goal.returns-in-Ok
returns-in-Ok c = state_read_of c.args.text.now c.in-Ok.text.now c.read_state.result c.in-Ok.ensures.cases.0 c.in-Ok.ensures.cases.1 c.read_state.ensures

pub returns-in-Err : goal.returns-in-Err
returns-in-Err c = state_unread c.args.text.now c.in-Err.ensures.cases.0
