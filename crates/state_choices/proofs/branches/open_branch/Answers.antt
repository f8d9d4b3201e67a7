use Rattle.std.proofs.Common.{◌≡◌, ◌∙◌, sym, ap}
use Rattle.std.specs.List.{list_any}
use Rattle.frac_core.specs.Fraction.{unit, is_wide}
use Rattle.frac_core.specs.Sums.{product}
use Rattle.process_core.specs.Bounds.{partial_products}
use Rattle.process_core.specs.Answers.{only_wide}
use Rattle.state_choices.specs.Open.{way_of, weighed}
use Rattle.state_choices.specs.Views.{updates_of}
use Rattle.state_choices.specs.declared.open.OpenBranch.{OpenBranch}
use Rattle.state_choices.proofs.Answering.{handed_on}
use Rattle.state_choices.proofs.Loops.{weights_map}
use Rattle.state_choices.proofs.LeftOpen.{same_way}
use Rattle.state_choices.proofs.branches.open_branch.Goals as goal

pub returns-in_err-weight : goal.returns-in_err-weight
returns-in_err-weight c =
    let Is = λ (b : OpenBranch). way_of b ≡ weighed (updates_of c.args.updates.now) in
    handed_on Is _ _ c.in_err-weight.field-0.0 c.from_residual.result c.from_residual.ensures.1
    (λ w. ap (λ l. list_any is_wide (partial_products unit l)) (weights_map c.args.updates.now) ∙ w) c.in_err-weight.ensures

pub returns : goal.returns
returns c =
    let us = c.args.updates.now in (
      ap (λ l. only_wide (list_any is_wide (partial_products unit l))) (weights_map us) ∙ c.in_ok-weight.ensures.0,
      same_way _ _ _ _ (c.in_ok-weight.ensures.1 ∙ ap product (sym (weights_map us))) (ap updates_of c.in_ok-updates.ensures),
    )
