use Rattle.std.proofs.Common.{subst}
use Rattle.row_check.specs.Lines.{ReadsText}
use Rattle.row_check.specs.Forms.{IsRowText}
use Rattle.row_check.proofs.RowLines.{row_kept}
use Rattle.row_check.proofs.row_files.RowFormLineFormRow.read.Goals as goal

pub returns-in-None-clause-line : goal.returns-in-None-clause-line
returns-in-None-clause-line c = λ q k. subst (ReadsText (IsRowText c.args.line.now)) c.in-None.is c.in_ok-read_row.ensures q k.row

pub returns-in-Some-clause-line : goal.returns-in-Some-clause-line
returns-in-Some-clause-line c =
    let t = c.text_laws.ensures in
    row_kept t.value t.state t.name c.args.listed c.args.before.now c.args.line.now c.in-Some.row (subst (ReadsText (IsRowText c.args.line.now)) c.in-Some.is c.in_ok-read_row.ensures) c.keep_row.result c.keep_row.ensures.row
