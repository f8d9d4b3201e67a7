use Rattle.std.proofs.Common.{subst}
use Rattle.std.specs.Prelude.{Err}
use Rattle.command_words.specs.Words.{checking_of, words_before_given}
use Rattle.model_process.specs.Starts.{Begins}
use Rattle.model_process.specs.Claims.{unstarted}
use Rattle.model_process.proofs.Judged.{of_started}
use Rattle.model_process.proofs.judging.ended.Goals as goal

pub returns-in-Ok : goal.returns-in-Ok
returns-in-Ok g c = λ d files is begins.
    let k = checking_of c.args.checking.now in
    of_started d k files (g.S.Steps.process c.in-Ok.process) c.judged.result (subst (Begins g.S.Steps.process d (words_before_given k) k.given) c.in-Ok.is begins) (c.judged.ensures files is)

pub returns-in-Err-Ended : goal.returns-in-Err-Ended
returns-in-Err-Ended g c = λ d files is begins.
    let k = checking_of c.args.checking.now in
    unstarted (rw c.in-Err-Ended.field-0-is
    (subst (λ u. Begins g.S.Steps.process d (words_before_given k) k.given (Err u)) c.in-Err-Ended.field-0-is
    (subst (Begins g.S.Steps.process d (words_before_given k) k.given) c.in-Err-Ended.is begins)))
