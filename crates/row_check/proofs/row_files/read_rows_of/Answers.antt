use Rattle.row_check.proofs.Reading.{no_counts, behind_counts}
use Rattle.row_check.proofs.row_files.read_rows_of.Goals as goal

pub rows_behind-requires : goal.rows_behind-requires
rows_behind-requires c = c.in-Ok.ensures.0

pub returns-in-Ok : goal.returns-in-Ok
returns-in-Ok c = behind_counts c.args.states c.args.bytes.now c.in-Ok.counts c.in-Ok.next c.in-Ok.ensures c.rows_behind.result c.rows_behind.ensures

pub returns-in-Err : goal.returns-in-Err
returns-in-Err c = no_counts c.args.states c.args.bytes.now c.in-Err.fail c.in-Err.ensures
