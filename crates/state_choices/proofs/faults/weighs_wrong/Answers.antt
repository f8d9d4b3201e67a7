use Rattle.std.proofs.Common.{◌≡◌, ◌∙◌, sym, ap, Bool, ◌||◌, not, map}
use Rattle.frac_core.specs.Fraction.{same_number, unit}
use Rattle.process_core.specs.Choices.{weights_of, weighs_wrong}
use Rattle.process_core.specs.Answers.{only_wide}
use Rattle.state_choices.specs.Views.{update_of}
use Rattle.state_choices.proofs.Answering.{handed_on}
use Rattle.state_choices.proofs.Weights.{wide_sum_is, none_wide, none_wrong, wrong_is}
use Rattle.state_choices.proofs.faults.weighs_wrong.Goals as goal

pub returns-then-has_undefined_weight : goal.returns-then-has_undefined_weight
returns-then-has_undefined_weight c =
    let us = c.args.updates.now in
    let h = sym c.has_undefined_weight.ensures ∙ c.if-has_undefined_weight.true in
    (ap only_wide (none_wide us h), sym (none_wrong us h))

pub returns-in_err-sum : goal.returns-in_err-sum
returns-in_err-sum c =
    let us = c.args.updates.now in
    let Is = λ (b : Bool). b ≡ weighs_wrong (weights_of (map update_of us)) in
    handed_on Is _ _ c.in_err-sum.field-0.0 c.from_residual.result c.from_residual.ensures.1
    (λ w. wide_sum_is us (sym c.has_undefined_weight.ensures ∙ c.if-has_undefined_weight.false) ∙ w) c.in_err-sum.ensures

pub returns-then-is_negative : goal.returns-then-is_negative
returns-then-is_negative c =
    let us = c.args.updates.now in
    let h = sym c.has_undefined_weight.ensures ∙ c.if-has_undefined_weight.false in
    let n = c.has_negative_weight-is_negative in (
      ap only_wide (wide_sum_is us h) ∙ c.in_ok-sum.ensures.0,
      c.if-is_negative.true ∙ ap (λ b. b || not (same_number c.in_ok-sum.sum unit)) (sym c.if-is_negative.true) ∙ wrong_is us n.result c.in_ok-sum.sum h n.ensures c.in_ok-sum.ensures.1,
    )

pub returns-else-is_negative : goal.returns-else-is_negative
returns-else-is_negative c =
    let us = c.args.updates.now in
    let h = sym c.has_undefined_weight.ensures ∙ c.if-has_undefined_weight.false in
    let n = c.has_negative_weight-is_negative in (
      ap only_wide (wide_sum_is us h) ∙ c.in_ok-sum.ensures.0,
      c.ne.ensures
          ∙ ap (λ x. not (same_number c.in_ok-sum.sum x)) c.one.ensures
          ∙ ap (λ b. b || not (same_number c.in_ok-sum.sum unit)) (sym c.if-is_negative.false)
          ∙ wrong_is us n.result c.in_ok-sum.sum h n.ensures c.in_ok-sum.ensures.1,
    )
