use Rattle.std.proofs.Common.{sym, subst, refl, ◌∷◌, []}
use Rattle.command_words.specs.Given.{HasGiven}
use Rattle.command_words.specs.Words.{IsWrong, IsNameBehind}
use Rattle.command_words.specs.Fronts.{One, HeadForm, RowsForm}
use Rattle.command_words.proofs.Wrong.{then_next}
use Rattle.command_words.proofs.Forms.{wrong_head, behind_head, wrong_name, rows_begins, last_begins}
use Rattle.command_words.proofs.claims.rows_in.Goals as goal

pub returns-in-Err : goal.returns-in-Err
returns-in-Err c = wrong_head RowsForm (rows_begins _) _ _ c.in-Err.ensures

pub returns-in_default : goal.returns-in_default
returns-in_default c =
    let file = c.in-Ok.head.file.now in
    subst (λ ws. IsWrong (HeadForm RowsForm) ws 3) (sym c.in-Ok.ensures.words_are)
    (behind_head RowsForm (rows_begins _) _ _ _ 1 (c.in-Ok.head.lang, refl) c.in-Ok.ensures.name
    (wrong_name (file ∷ []) (λ states. One (IsNameBehind (file ∷ states ∷ [])) HasGiven) (rows_begins file) _ c.in_default.ensures))

pub returns-in_default-name_in : goal.returns-in_default-name_in
returns-in_default-name_in c =
    let file = c.in-Ok.head.file.now in
    let states = c.in-Some.states.name.now in
    subst (λ ws. IsWrong (HeadForm RowsForm) ws 4) (sym c.in-Ok.ensures.words_are)
    (behind_head RowsForm (rows_begins _) _ _ _ 2 (c.in-Ok.head.lang, refl) c.in-Ok.ensures.name
    (subst (λ ws. IsWrong (RowsForm file) ws 2) (sym c.in-Some.ensures.words_are)
    (then_next (IsNameBehind (file ∷ [])) (λ states. One (IsNameBehind (file ∷ states ∷ [])) HasGiven) states _ 1 c.in-Some.ensures.name
    (wrong_name (file ∷ states ∷ []) (λ rows. HasGiven) (last_begins file states) _ c.in_default-name_in.ensures))))
