use Rattle.std.proofs.Common.{◌∙◌, ◌∷◌, ap, subst}
use Rattle.row_check.specs.Lines.{ReadsText}
use Rattle.row_check.specs.Texts.{IsNameText}
use Rattle.row_check.proofs.RowLines.{no_part}
use Rattle.row_check.proofs.row_files.label_part.Goals as goal

pub returns-in-None-2 : goal.returns-in-None-2
returns-in-None-2 c =
    let m = c.in-Some-eq32-default in
    no_part c.args.text.now m.label.now (m.ensures.cases.0 ∙ ap (λ b. b ∷ m.label.now) m.field-0-0-test)
    (subst (ReadsText (IsNameText m.label.now)) c.in-None-2.is c.in_ok-name-in-Some-eq32-default.ensures)
