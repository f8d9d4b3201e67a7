use Rattle.std.proofs.Common.{subst}
use Rattle.command_words.specs.Words.{checking_of}
use Rattle.model_process.specs.ReadModels.{IsRead}
use Rattle.model_process.proofs.ByLanguage.{prism_read, jani_read}
use Rattle.model_process.proofs.judging.judge_claim.Goals as goal

pub returns-in-Prism : goal.returns-in-Prism
returns-in-Prism c = λ bytes read.
    let l = (checking_of c.args.checking.now).lang in
    let is = prism_read l bytes c.in-Prism.model (subst (IsRead l bytes) c.in-Prism.is read) in
    c.in_prism.ensures bytes is.1 is.0

pub returns-in-Jani : goal.returns-in-Jani
returns-in-Jani c = λ bytes read.
    let l = (checking_of c.args.checking.now).lang in
    let is = jani_read l bytes c.in-Jani.model (subst (IsRead l bytes) c.in-Jani.is read) in
    c.in_jani.ensures bytes is.1 is.0
