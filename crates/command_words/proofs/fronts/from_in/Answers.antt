use Rattle.std.proofs.Common.{sym, subst, ◌+◌}
use Rattle.command_words.specs.Words.{IsWrong, IsStateWord}
use Rattle.command_words.specs.Fronts.{WayForm, FromForm}
use Rattle.command_words.proofs.Wrong.{one_next}
use Rattle.command_words.proofs.Forms.{way_begins, wrong_state}
use Rattle.command_words.proofs.fronts.from_in.Goals as goal

pub returns-in_default : goal.returns-in_default
returns-in_default c = wrong_state WayForm way_begins _ c.in_default.ensures

pub returns-in-Err-At : goal.returns-in-Err-At
returns-in-Err-At c =
    subst (λ ws. IsWrong FromForm ws (c.in-Err-At.k + 1)) (sym c.in-Some.ensures.words_are) (one_next IsStateWord WayForm _ _ _ c.in-Some.ensures.state (rw c.in-Err-At.field-0-is at c.in-Err-At.ensures))
