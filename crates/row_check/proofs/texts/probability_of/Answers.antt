use Rattle.std.proofs.Common.{sym, subst, ◌∙◌}
use Rattle.process_texts.specs.Given.{Answers, IsValue}
use Rattle.process_texts.specs.declared.given.GivenText.TheVariants.{Good, Past, NoForm}
use Rattle.row_check.specs.Lines.{ReadsText}
use Rattle.row_check.specs.Texts.{IsProbability}
use Rattle.row_check.proofs.Numerals.{probability_unread, probability_good, probability_past, probability_none}
use Rattle.row_check.proofs.texts.probability_of.Goals as goal

pub returns-in_default : goal.returns-in_default
returns-in_default c = probability_unread c.args.text.now c.in_default.ensures.cases.0

pub returns-in-Good : goal.returns-in-Good
returns-in-Good c =
    let e = c.in-Ok.ensures.cases.0 in
    let text = c.args.text.now in
    subst (ReadsText (IsProbability text)) (sym c.number_in.ensures)
    (probability_good c.text_laws.ensures.value text c.in-Ok.ensures.cases.1 (sym c.begins_with.ensures ∙ c.if-begins_with.false) c.in-Good.value
    (subst (λ t. Answers (IsValue t) (Good c.in-Good.value)) e c.in-Good.ensures))

pub returns-in-Past : goal.returns-in-Past
returns-in-Past c =
    let e = c.in-Ok.ensures.cases.0 in
    probability_past c.text_laws.ensures.value c.args.text.now c.in-Ok.ensures.cases.1 (sym c.begins_with.ensures ∙ c.if-begins_with.false)
    (subst (λ t. Answers (IsValue t) Past) e c.in-Past.ensures)

pub returns-in-NoForm : goal.returns-in-NoForm
returns-in-NoForm c =
    let e = c.in-Ok.ensures.cases.0 in
    probability_none c.text_laws.ensures.value c.args.text.now c.in-Ok.ensures.cases.1 (sym c.begins_with.ensures ∙ c.if-begins_with.false)
    (subst (λ t. Answers (IsValue t) NoForm) e c.in-NoForm.ensures)
