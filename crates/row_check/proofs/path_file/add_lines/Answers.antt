use Rattle.row_check.specs.Lines.{lines_at}
use Rattle.row_check.proofs.StepLines.{no_steps}
use Rattle.row_check.proofs.path_file.add_lines.Goals as goal

pub returns-in-Err : goal.returns-in-Err
returns-in-Err c = no_steps (lines_at c.args.bytes.now c.args.at) c.args.path.now c.args.path.now c.in-Err.fail c.in-Err.ensures
