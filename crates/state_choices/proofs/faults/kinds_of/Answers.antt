use Rattle.std.proofs.Common.{◌≡◌, ◌∙◌, sym, ap, ap₂, ◌||◌, map}
use Rattle.std.proofs.lemmas.Bool.{or_right}
use Rattle.process_core.specs.Choices.{kinds_of}
use Rattle.process_core.specs.Answers.{only_wide}
use Rattle.process_core.specs.Seen.{seen_kinds}
use Rattle.process_core.specs.declared.data.Bad.{Bad}
use Rattle.process_core.specs.Idle.{same_kinds}
use Rattle.state_choices.specs.Flaws.{flaws_in, participant_flaws, sum_flaws, both}
use Rattle.state_choices.specs.declared.flaws.Flaws.{Flaws}
use Rattle.state_choices.specs.Views.{participants_of, sum_of}
use Rattle.state_choices.proofs.Answering.{narrow_then, handed_on}
use Rattle.state_choices.proofs.Flawed.{kinds_wide, kinds_undef, kinds_range, kinds_weight, flaws, wide_weights}
use Rattle.state_choices.proofs.faults.kinds_of.Goals as goal

pub returns-then-flaws : goal.returns-then-flaws
returns-then-flaws c =
    let e : c.or-flaws.result ≡ both (flaws_in participant_flaws c.args.participants.now) (flaws_in sum_flaws c.args.rewards.now) = c.or-flaws.ensures ∙ ap₂ both c.flaws_in.ensures c.requires in
    ap only_wide (kinds_wide c.args.rewards.now c.args.participants.now ∙ ap (λ b. b || wide_weights c.args.rewards.now c.args.participants.now) (sym (ap (λ (f : Flaws). f.wide) e) ∙ c.if-flaws.true))

pub returns-in_err-weight : goal.returns-in_err-weight
returns-in_err-weight c =
    let Is = λ (k : Bad). seen_kinds k ≡ kinds_of (map sum_of c.args.rewards.now) (participants_of c.args.participants.now) in
    handed_on Is _ _ c.in_err-weight.field-0.0 c.from_residual.result c.from_residual.ensures.1
    (λ w. kinds_wide c.args.rewards.now c.args.participants.now ∙ or_right (flaws c.args.rewards.now c.args.participants.now) _ w) c.in_err-weight.ensures

pub returns : goal.returns
returns c =
    let rewards = c.args.rewards.now in
    let rs = c.args.participants.now in
    let e : c.or-flaws.result ≡ both (flaws_in participant_flaws rs) (flaws_in sum_flaws rewards) = c.or-flaws.ensures ∙ ap₂ both c.flaws_in.ensures c.requires in (
      ap only_wide (kinds_wide rewards rs ∙ ap₂ (λ a b. a || b) (sym (ap (λ (f : Flaws). f.wide) e) ∙ c.if-flaws.false) (narrow_then _ c.in_ok-weight.ensures.0)),
      same_kinds _ _ _ _ _ _
          (ap (λ (f : Flaws). f.undef) e ∙ kinds_undef rewards rs)
          (ap (λ (f : Flaws). f.range) e ∙ kinds_range rewards rs)
          (c.in_ok-weight.ensures.1 ∙ kinds_weight rewards rs),
    )
