use Rattle.std.proofs.Common.{subst}
use Rattle.row_check.specs.Lines.{ReadsText}
use Rattle.row_check.specs.Forms.{IsLabelPart}
use Rattle.row_check.proofs.RowLines.{no_numbers, no_weight, no_row_label}
use Rattle.row_check.proofs.row_files.read_row.Goals as goal

pub returns-in-None : goal.returns-in-None
returns-in-None c = no_numbers c.args.line.now c.in-None.ensures

pub returns-in-None-probability_of : goal.returns-in-None-probability_of
returns-in-None-probability_of c =
    let p = c.in-Some.parts in
    let s = c.split_before_space in
    no_weight c.args.line.now p.0 p.1 p.2 p.3.now s.result.0.now s.result.1.now c.in-Some.ensures s.ensures.parts s.ensures.apart s.ensures.space c.in-None-probability_of.ensures

pub returns-in-None-2 : goal.returns-in-None-2
returns-in-None-2 c =
    let p = c.in-Some.parts in
    let s = c.split_before_space in
    no_row_label c.args.line.now p.0 p.1 p.2 p.3.now s.result.0.now s.result.1.now c.in-Some.ensures s.ensures.parts s.ensures.apart s.ensures.space
    (subst (ReadsText (IsLabelPart s.result.1.now)) c.in-None-2.is c.in_ok-label.ensures)
