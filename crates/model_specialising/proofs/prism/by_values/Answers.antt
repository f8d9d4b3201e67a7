use Rattle.std.proofs.Common.{◌≡◌, ◌∙◌, subst, map, None}
use Rattle.instance_start.specs.Given.{given_by}
use Rattle.prism_tree.specs.Syntax.{file_of}
use Rattle.prism_instance.specs.Described.{prism_description}
use Rattle.constant_folding.specs.Unfit.{Fails, unfit}
use Rattle.command_words.specs.Given.{assignment_of}
use Rattle.model_process.specs.Constants.{givens}
use Rattle.model_specialising.specs.Specialised.{SpecialisesPrism}
use Rattle.model_specialising.proofs.Ended.{of_finished, of_unfit_tree}
use Rattle.model_specialising.proofs.Written.{prism_constants, prism_written}
use Rattle.model_specialising.proofs.prism.by_values.Goals as goal

pub text_of-requires : goal.text_of-requires
text_of-requires c = c.in-Ok.ensures.clean.printable

pub returns-in_ok-text-in-Ok : goal.returns-in_ok-text-in-Ok
returns-in_ok-text-in-Ok c = λ tree same.
    let given = map assignment_of c.args.values.now in
    let front = c.requires.front in
    let d = prism_description tree in
    let fits : unfit d.constants c.args.given.now ≡ None =
    subst (λ cs. unfit cs c.args.given.now ≡ None) (prism_constants c.described_law.ensures c.args.written tree same) c.in-Ok.ensures.fits in
    of_finished d.constants given (SpecialisesPrism tree (given_by (givens given))) c.in_ok-text-in-Ok.text c.finished.result
    (c.finished.ensures d.constants (subst (λ gs. unfit d.constants gs ≡ None) front fits))
    (λ all. subst (λ gs. SpecialisesPrism tree (given_by gs) c.in_ok-text-in-Ok.text) (front ∙ all)
    (prism_written c.meaning_law.ensures.meaning c.prism_again_law.ensures c.specialised_meaning_law.ensures.defined c.args.written tree (file_of c.in-Ok.file) (given_by c.args.given.now) c.in_ok-text-in-Ok.text same c.in-Ok.ensures.tree c.in-Ok.ensures.clean c.in-Ok.ensures.meaning
    c.in_ok-text-in-Ok.ensures.text c.in_ok-text-in-Ok.ensures.spells))

pub returns-in-Err : goal.returns-in-Err
returns-in-Err c =
    let given = map assignment_of c.args.values.now in
    let front = c.requires.front in
    of_unfit_tree c.args.written given c.failed.result
    (λ tree same.
    let d = prism_description tree in
    c.failed.ensures d.constants (subst (λ gs. Fails d.constants gs c.in-Err.fail) front
    (subst (λ cs. Fails cs c.args.given.now c.in-Err.fail) (prism_constants c.described_law.ensures c.args.written tree same) c.in-Err.ensures.word)))
