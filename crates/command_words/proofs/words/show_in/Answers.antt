use Rattle.std.proofs.Common.{sym, subst, refl}
use Rattle.command_words.specs.Given.{HasGiven}
use Rattle.command_words.specs.Words.{IsWrong}
use Rattle.command_words.specs.Fronts.{StateForm, ShowForm}
use Rattle.command_words.proofs.Forms.{wrong_head, behind_head, wrong_state, state_begins, given_begins}
use Rattle.command_words.proofs.words.show_in.Goals as goal

pub returns-in-Err : goal.returns-in-Err
returns-in-Err c = wrong_head (λ file. StateForm) state_begins _ _ c.in-Err.ensures

pub returns-in_default : goal.returns-in_default
returns-in_default c =
    subst (λ ws. IsWrong ShowForm ws 3) (sym c.in-Ok.ensures.words_are)
    (behind_head (λ file. StateForm) state_begins _ _ _ 1 (c.in-Ok.head.lang, refl) c.in-Ok.ensures.name (wrong_state HasGiven given_begins _ c.in_default.ensures))
