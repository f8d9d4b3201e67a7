use Rattle.std.proofs.Common.{◌≡◌, ◌∙◌, sym, subst, map, None}
use Rattle.instance_start.specs.Given.{given_by}
use Rattle.jani_tree.specs.Syntax.{file_of}
use Rattle.jani_tree.specs.Form.{FileShort}
use Rattle.jani_instance.specs.Described.{jani_description}
use Rattle.constant_folding.specs.Unfit.{Fails, unfit}
use Rattle.command_words.specs.Given.{assignment_of}
use Rattle.model_process.specs.Constants.{givens}
use Rattle.model_specialising.specs.Specialised.{SpecialisesJani}
use Rattle.model_specialising.proofs.Ended.{of_finished, of_unfit_ok}
use Rattle.model_specialising.proofs.Written.{jani_constants, jani_written}
use Rattle.model_specialising.proofs.jani.by_values.Goals as goal

pub text_of-requires-clause-short : goal.text_of-requires-clause-short
text_of-requires-clause-short c =
    let tree = file_of c.args.checked in
    subst FileShort (sym c.in-Ok.ensures.tree) (c.specialised_clean_law.ensures.short tree (given_by c.args.given.now) c.requires.short)

pub returns-in_ok-text-in-Ok : goal.returns-in_ok-text-in-Ok
returns-in_ok-text-in-Ok c =
    let tree = file_of c.args.checked in
    let given = map assignment_of c.args.values.now in
    let front = c.requires.front in
    let d = jani_description tree in
    let fits : unfit d.constants c.args.given.now ≡ None = subst (λ cs. unfit cs c.args.given.now ≡ None) (jani_constants tree) c.in-Ok.ensures.fits in
    of_finished d.constants given (SpecialisesJani tree (given_by (givens given))) c.in_ok-text-in-Ok.text c.finished.result
    (c.finished.ensures d.constants (subst (λ gs. unfit d.constants gs ≡ None) front fits))
    (λ all. subst (λ gs. SpecialisesJani tree (given_by gs) c.in_ok-text-in-Ok.text) (front ∙ all)
    (jani_written c.jani_again_law.ensures c.specialised_meaning_law.ensures.defined tree (file_of c.in-Ok.file) (given_by c.args.given.now) c.in_ok-text-in-Ok.text c.in-Ok.ensures.tree c.in-Ok.ensures.clean c.in-Ok.ensures.meaning c.in_ok-text-in-Ok.ensures.text c.in_ok-text-in-Ok.ensures.spells c.in_ok-text-in-Ok.ensures.shaped))

pub returns-in-Err : goal.returns-in-Err
returns-in-Err c =
    let tree = file_of c.args.checked in
    let given = map assignment_of c.args.values.now in
    let front = c.requires.front in
    let d = jani_description tree in
    of_unfit_ok d.constants given (SpecialisesJani tree (given_by (givens given))) c.failed.result
    (c.failed.ensures d.constants (subst (λ gs. Fails d.constants gs c.in-Err.fail) front (subst (λ cs. Fails cs c.args.given.now c.in-Err.fail) (jani_constants tree) c.in-Err.ensures.word)))
