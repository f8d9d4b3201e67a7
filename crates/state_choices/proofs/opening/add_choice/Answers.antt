use Rattle.std.proofs.Common.{◌≡◌, ◌∙◌, ◌++◌, Some, sym, ap, map}
use Rattle.process_core.specs.Answers.{only_wide}
use Rattle.process_core.specs.Choices.{choice_of}
use Rattle.state_choices.specs.Open.{open_choice}
use Rattle.state_choices.specs.Views.{combination_of}
use Rattle.state_choices.proofs.Answering.{handed_on}
use Rattle.state_choices.proofs.LeftOpen.{choice_is, rest_is}
use Rattle.state_choices.proofs.opening.add_choice.Goals as goal

pub returns-in_err-outcome-in-Some-true : goal.returns-in_err-outcome-in-Some-true
returns-in_err-outcome-in-Some-true c s =
    let k = combination_of c.args.group.now c.args.participants.now in
    let e = sym c.guard_of.ensures ∙ c.in-Some-true.is ∙ ap Some c.in-Some-true.field-0-test in
    let old = map (open_choice s) c.args.all.now in
    let Is = λ (u : Unit {0}). old ≡ old ++ choice_of s k in
    handed_on Is _ _ c.in_err-outcome-in-Some-true.field-0.0 c.from_residual.result c.from_residual.ensures.1 (λ w. rest_is k e ∙ w) (c.in_err-outcome-in-Some-true.ensures s)

pub returns-in_ok-push_choice-in-Some-true : goal.returns-in_ok-push_choice-in-Some-true
returns-in_ok-push_choice-in-Some-true c s =
    let k = combination_of c.args.group.now c.args.participants.now in
    let e = sym c.guard_of.ensures ∙ c.in-Some-true.is ∙ ap Some c.in-Some-true.field-0-test in
    let told = c.in_ok-outcome-in-Some-true.ensures s in
    (ap only_wide (rest_is k e) ∙ told.0, c.in_ok-push_choice-in-Some-true.ensures s ∙ ap (λ l. map (open_choice s) c.args.all.now ++ l) (choice_is k e s _ told.1))
