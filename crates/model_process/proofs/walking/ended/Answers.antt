use Rattle.std.proofs.Common.{subst}
use Rattle.std.specs.Prelude.{Err}
use Rattle.command_words.specs.Words.{walking_of, words_before}
use Rattle.model_process.specs.Starts.{Begins}
use Rattle.model_process.specs.Walks.{unstarted}
use Rattle.model_process.proofs.Walks.{if_shown}
use Rattle.model_process.proofs.walking.ended.Goals as goal

pub returns-in-Ok : goal.returns-in-Ok
returns-in-Ok g c = λ d begins.
    if_shown d (walking_of c.args.walking.now) (g.S.Steps.process c.in-Ok.process) c.shown.result (subst (Begins g.S.Steps.process d _ _) c.in-Ok.is begins) c.shown.ensures

pub returns-in-Err-Ended : goal.returns-in-Err-Ended
returns-in-Err-Ended g c = λ d begins.
    let w = walking_of c.args.walking.now in
    unstarted (rw c.in-Err-Ended.field-0-is (subst (λ u. Begins g.S.Steps.process d (words_before w) w.given (Err u)) c.in-Err-Ended.field-0-is (subst (Begins g.S.Steps.process d (words_before w) w.given) c.in-Err-Ended.is begins)))
