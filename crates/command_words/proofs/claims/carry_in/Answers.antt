use Rattle.std.proofs.Common.{sym, subst, refl, ◌∷◌, []}
use Rattle.command_words.specs.Given.{HasGiven}
use Rattle.command_words.specs.Words.{IsWrong}
use Rattle.command_words.specs.Fronts.{HeadForm, PathForm}
use Rattle.command_words.proofs.Forms.{wrong_head, behind_head, wrong_name, path_begins}
use Rattle.command_words.proofs.claims.carry_in.Goals as goal

pub returns-in-Err : goal.returns-in-Err
returns-in-Err c = wrong_head PathForm (path_begins _) _ _ c.in-Err.ensures

pub returns-in_default : goal.returns-in_default
returns-in_default c =
    subst (λ ws. IsWrong (HeadForm PathForm) ws 3) (sym c.in-Ok.ensures.words_are)
    (behind_head PathForm (path_begins _) _ _ _ 1 (c.in-Ok.head.lang, refl) c.in-Ok.ensures.name (wrong_name (c.in-Ok.head.file.now ∷ []) (λ path. HasGiven) (path_begins c.in-Ok.head.file.now) _ c.in_default.ensures))
