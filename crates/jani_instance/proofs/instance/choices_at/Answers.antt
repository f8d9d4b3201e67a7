use Rattle.std.proofs.Common.{◌≡◌, ◌∙◌, ap, map, subst}
use Rattle.process_core.specs.Answers.{Answers}
use Rattle.process_core.specs.Bounds.{excess}
use Rattle.process_core.specs.Choices.{choices}
use Rattle.process_core.specs.Seen.{seen_choice}
use Rattle.jani_tree.specs.Syntax.{file_of}
use Rattle.state_choices.specs.Groups.{of_groups}
use Rattle.state_choices.specs.Views.{group_of}
use Rattle.state_choices.proofs.AtGroups.{answers_at}
use Rattle.instance_start.specs.Given.{given_by}
use Rattle.jani_instance.specs.Described.{described}
use Rattle.jani_instance.proofs.instance.choices_at.Goals as goal

pub returns : goal.returns
returns c =
    let i = c.args.instance.now in
    let s = c.args.s.now.values in
    answers_at (described (file_of i.checked.now) (given_by i.given.now)) s _ c.in_ok-evaluated.ensures (λ l cs. map seen_choice cs ≡ l) c.choices_of.result
    (subst (λ gs. Answers (excess (of_groups gs)) (λ cs. map seen_choice cs ≡ choices s (of_groups gs)) c.choices_of.result)
    (ap (map group_of) c.as_slice.ensures.value ∙ c.in_ok-groups.ensures) c.choices_of.ensures)
