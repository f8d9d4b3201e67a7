use Rattle.std.proofs.Common.{sym, subst}
use Rattle.command_words.specs.Words.{specialising_of}
use Rattle.model_process.specs.ReadModels.{IsRead}
use Rattle.model_process.proofs.ByLanguage.{prism_read, jani_read}
use Rattle.model_specialising.specs.Ends.{SpecialisesIn}
use Rattle.model_specialising.proofs.specialising.specialise_model.Goals as goal

pub returns-in-Prism : goal.returns-in-Prism
returns-in-Prism c = λ bytes read.
    let p = specialising_of c.args.specialising.now in
    let is = prism_read p.lang bytes c.in-Prism.model (subst (IsRead p.lang bytes) c.in-Prism.is read) in
    subst (λ l. SpecialisesIn l p.given bytes c.in_prism.result) (sym is.0) ((rw c.as_slice-values.ensures at c.in_prism.ensures) bytes is.1)

pub in_jani-requires-clause-read : goal.in_jani-requires-clause-read
in_jani-requires-clause-read c =
    let l = (specialising_of c.args.specialising.now).lang in
    let some = c.requires.read in
    (some.0, (jani_read l some.0 c.in-Jani.model (subst (IsRead l some.0) c.in-Jani.is some.1)).1)

pub returns-in-Jani : goal.returns-in-Jani
returns-in-Jani c = λ bytes read.
    let p = specialising_of c.args.specialising.now in
    let is = jani_read p.lang bytes c.in-Jani.model (subst (IsRead p.lang bytes) c.in-Jani.is read) in
    subst (λ l. SpecialisesIn l p.given bytes c.in_jani.result) (sym is.0) ((rw c.as_slice-values.ensures at c.in_jani.ensures) bytes is.1)
