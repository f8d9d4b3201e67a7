use Rattle.row_check.specs.Forms.{ReadsFirst}
use Rattle.std.proofs.Common.{length}
use Rattle.row_check.proofs.Reading.{no_header, behind_header}
use Rattle.row_check.proofs.path_file.read_path.Goals as goal

pub read_first-requires : goal.read_first-requires
read_first-requires g c = c.in-Ok.ensures.0

pub returns-in-Ok : goal.returns-in-Ok
returns-in-Ok g c = let bytes = c.args.path.now in behind_header (g.S.Steps.process c.args.s.now) bytes (λ u. ReadsFirst (length bytes)) c.in-Ok.next c.in-Ok.ensures c.read_first.result c.read_first.ensures

pub returns-in-Err : goal.returns-in-Err
returns-in-Err g c = let bytes = c.args.path.now in no_header (g.S.Steps.process c.args.s.now) bytes (λ u. ReadsFirst (length bytes)) c.in-Err.fail c.in-Err.ensures
