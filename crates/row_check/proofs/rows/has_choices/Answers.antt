use Rattle.std.proofs.Common.{sym, subst}
use Rattle.std.specs.List.{AllZip}
use Rattle.row_check.specs.Rows.{runs}
use Rattle.row_check.specs.Walked.{KeepsRun}
use Rattle.row_check.proofs.Chosen.{told_by_rows}
use Rattle.row_check.proofs.rows.has_choices.Goals as goal

pub returns : goal.returns
returns c =
    told_by_rows c.args.own.now c.args.model.now c.as_slice.result.now c.equally_often.result
    (λ n t. subst (λ ms. AllZip (KeepsRun n) (runs c.args.own.now) ms) (sym c.as_slice.ensures.value) (c.in_ok-file.ensures n t)) c.equally_often.ensures
