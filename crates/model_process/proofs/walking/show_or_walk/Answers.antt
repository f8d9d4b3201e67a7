use Rattle.std.proofs.Common.{sym, subst}
use Rattle.command_words.specs.Words.{walking_of}
use Rattle.model_process.specs.ReadModels.{IsRead}
use Rattle.model_process.specs.Walks.{WalksOn}
use Rattle.model_process.proofs.ByLanguage.{prism_read, jani_read}
use Rattle.model_process.proofs.walking.show_or_walk.Goals as goal

pub returns-in-Prism : goal.returns-in-Prism
returns-in-Prism c = λ bytes read.
    let w = walking_of c.args.walking.now in
    let is = prism_read w.lang bytes c.in-Prism.model (subst (IsRead w.lang bytes) c.in-Prism.is read) in
    subst (λ l. WalksOn l w bytes c.in_prism.result) (sym is.0) (c.in_prism.ensures bytes is.1)

pub returns-in-Jani : goal.returns-in-Jani
returns-in-Jani c = λ bytes read.
    let w = walking_of c.args.walking.now in
    let is = jani_read w.lang bytes c.in-Jani.model (subst (IsRead w.lang bytes) c.in-Jani.is read) in
    subst (λ l. WalksOn l w bytes c.in_jani.result) (sym is.0) (c.in_jani.ensures bytes is.1)
