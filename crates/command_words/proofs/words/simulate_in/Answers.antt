use Rattle.std.proofs.Common.{sym, subst, refl, ◌+◌}
use Rattle.command_words.specs.Words.{IsWrong}
use Rattle.command_words.specs.Fronts.{WalkForm, SimulateForm}
use Rattle.command_words.proofs.Forms.{wrong_head, behind_head, walk_begins}
use Rattle.command_words.proofs.words.simulate_in.Goals as goal

pub returns-in-Err : goal.returns-in-Err
returns-in-Err c = wrong_head (λ file. WalkForm) walk_begins _ _ c.in-Err.ensures

pub returns-in-Err-At : goal.returns-in-Err-At
returns-in-Err-At c =
    rw c.in-Err-At.field-0-is (subst (λ ws. IsWrong SimulateForm ws (c.in-Err-At.k + 2)) (sym c.in-Ok.ensures.words_are)
    (behind_head (λ file. WalkForm) walk_begins _ _ _ c.in-Err-At.k (c.in-Ok.head.lang, refl) c.in-Ok.ensures.name (rw c.in-Err-At.field-0-is at c.in-Err-At.ensures)))
