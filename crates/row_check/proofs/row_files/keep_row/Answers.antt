use Rattle.std.proofs.Common.{◌∷◌, ◌++◌, []}
use Rattle.row_check.specs.Forms.{MayCome}
use Rattle.row_check.specs.Targets.{KeepsTargets}
use Rattle.row_check.proofs.RowLines.{row_if_told, row_if_keeps}
use Rattle.row_check.proofs.row_files.keep_row.Goals as goal

pub returns-clause-row : goal.returns-clause-row
returns-clause-row c = row_if_told (MayCome c.args.listed c.args.before.now c.args.row) c.args.row c.in_ok-may.may c.row_if.result c.in_ok-may.ensures.may c.row_if.ensures

pub returns-clause-keeps : goal.returns-clause-keeps
returns-clause-keeps c = row_if_keeps (λ it. KeepsTargets c.may_come.new.targets (c.args.before.now ++ it ∷ [])) c.args.row c.in_ok-may.may c.row_if.result c.in_ok-may.ensures.keeps c.row_if.ensures
