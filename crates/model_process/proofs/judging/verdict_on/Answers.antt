use Rattle.std.proofs.Common.{◌≡◌, ◌∙◌, sym, subst, Some}
use Rattle.command_words.specs.Words.{claim_of}
use Rattle.value_bound.specs.Labels.{label_named}
use Rattle.model_process.specs.Claims.{Tells}
use Rattle.model_process.proofs.judging.verdict_on.Goals as goal

pub returns-in-Some : goal.returns-in-Some
returns-in-Some g c = λ files is.
    let p = g.S.Steps.process c.args.process.now in
    let named : label_named p c.in-Bounds.name.now ≡ Some c.in-Some.label = sym c.in_ok-label-in-Bounds.ensures.number ∙ c.in-Some.is in
    subst (λ k. Tells p (claim_of k) files c.bounds_on.result) (sym c.in-Bounds.is)
    (c.bounds_on.ensures c.in-Bounds.field-0.now c.in-Bounds.field-1.now c.in-Bounds.name.now c.in-Bounds.field-3.now files is named)
