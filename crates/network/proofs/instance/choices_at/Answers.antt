use Rattle.std.proofs.Common.{◌≡◌, ◌∙◌, ap, map, subst}
use Rattle.process_core.specs.Answers.{Answers}
use Rattle.process_core.specs.Bounds.{excess}
use Rattle.process_core.specs.Choices.{choices}
use Rattle.process_core.specs.Seen.{seen_choice}
use Rattle.state_choices.specs.Groups.{of_groups}
use Rattle.state_choices.specs.Views.{group_of}
use Rattle.state_choices.proofs.AtGroups.{answers_at}
use Rattle.network.specs.Computed.{groups_of}
use Rattle.network.specs.Outline.{process_by}
use Rattle.network.proofs.instance.choices_at.Goals as goal

pub returns : goal.returns
returns g c =
    let i = c.args.instance.now in
    let s = c.args.s.now.values in
    answers_at (process_by (g.M.Outlined.outline i.model)) s _ c.in_ok-evaluated.ensures (λ l cs. map seen_choice cs ≡ l) c.choices_of.result
    (subst (λ gs. Answers (excess (of_groups gs)) (λ cs. map seen_choice cs ≡ choices s (of_groups gs)) c.choices_of.result)
    (ap (map group_of) c.as_slice-2.ensures.value ∙ c.in_ok-groups.ensures ∙ ap (groups_of c.in_ok-evaluated.evaluated) c.as_slice.ensures.value) c.choices_of.ensures)
