use Rattle.std.proofs.Common.{subst}
use Rattle.row_check.specs.Lines.{ReadsText}
use Rattle.row_check.specs.Texts.{IsStateText}
use Rattle.row_check.specs.Forms.{IsStepLabel}
use Rattle.row_check.proofs.StepLines.{no_label, no_state}
use Rattle.row_check.proofs.path_file.StepFormLineFormPathStep.read.Goals as goal

pub returns-in-None-2-clause-line : goal.returns-in-None-2-clause-line
returns-in-None-2-clause-line c =
    let p = c.in-Some.parts in
    no_label c.args._before.now c.args.line.now p.0.now p.1.now c.in-Some.ensures.0 c.in-Some.ensures.1
    (subst (ReadsText (IsStepLabel p.0.now)) c.in-None-2.is c.in_ok-label.ensures)

pub returns-in-None-3-clause-line : goal.returns-in-None-3-clause-line
returns-in-None-3-clause-line c =
    let p = c.in-Some.parts in
    no_state c.args._before.now c.args.line.now p.0.now p.1.now c.in-Some.ensures.0 c.in-Some.ensures.1
    (subst (ReadsText (IsStateText p.1.now)) c.in-None-3.is c.in_ok-state.ensures)
