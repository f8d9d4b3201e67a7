use Rattle.row_check.specs.Forms.{IsStateLine}
use Rattle.row_check.specs.Lines.{AreRead}
use Rattle.row_check.proofs.Reading.{no_header, behind_header}
use Rattle.row_check.proofs.row_files.read_states.Goals as goal

pub read_state_lines-requires : goal.read_state_lines-requires
read_state_lines-requires g c = c.in-Ok.ensures.0

pub returns-in-Ok : goal.returns-in-Ok
returns-in-Ok g c = behind_header (g.S.Steps.process c.args.s.now) c.args.bytes.now (λ u. AreRead IsStateLine) c.in-Ok.next c.in-Ok.ensures c.read_state_lines.result c.read_state_lines.ensures

pub returns-in-Err : goal.returns-in-Err
returns-in-Err g c = no_header (g.S.Steps.process c.args.s.now) c.args.bytes.now (λ u. AreRead IsStateLine) c.in-Err.fail c.in-Err.ensures
