use Rattle.row_check.specs.Lines.{lines_at}
use Rattle.row_check.proofs.StepLines.{steps_failed, steps_added}
use Rattle.row_check.proofs.path_file.read_steps.Goals as goal

pub returns-in-Ok : goal.returns-in-Ok
returns-in-Ok c = steps_added (lines_at c.args.bytes.now c.args.at) c.in_ok-path.path c.add_lines.new.path c.args.first c.in_ok-path.ensures c.in-Ok.ensures

pub returns-in-Err : goal.returns-in-Err
returns-in-Err c = steps_failed (lines_at c.args.bytes.now c.args.at) c.in_ok-path.path c.add_lines.new.path c.args.first c.in-Err.fail c.in-Err.ensures
