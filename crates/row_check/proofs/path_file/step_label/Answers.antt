use Rattle.std.proofs.Common.{◌∙◌, ap₂, nat_eq, subst}
use Rattle.std.specs.Cmp.Lexicographic.{pointwise}
use Rattle.row_check.specs.Lines.{ReadsText}
use Rattle.row_check.specs.Texts.{IsNameText}
use Rattle.row_check.proofs.StepLines.{no_step_label}
use Rattle.row_check.proofs.path_file.step_label.Goals as goal

pub returns-in-None : goal.returns-in-None
returns-in-None c =
    no_step_label c.args.text.now (λ f. let e = c.if-eq.ensures ∙ ap₂ (pointwise nat_eq) f c.as_slice.ensures in absurd cc)
    (subst (ReadsText (IsNameText c.args.text.now)) c.in-None.is c.in_ok-name.ensures)
