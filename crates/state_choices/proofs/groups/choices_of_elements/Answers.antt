use Rattle.std.proofs.Common.{◌∙◌, map, ap}
use Rattle.state_choices.specs.Views.{group_of}
use Rattle.state_choices.proofs.MemberLaws.{member_laws}
use Rattle.state_choices.proofs.Whole.{of_element_groups}
use Rattle.state_choices.proofs.groups.choices_of_elements.Goals as goal

pub returns : goal.returns
returns c = λ earned es e h.
    of_element_groups c.args.s.now.values c.choices_of.result earned _ es _
    (ap (map group_of) c.as_slice.ensures.value ∙ c.in_ok-groups.ensures ∙ member_laws.elements c.args.rewards.now c.args.vectors.now c.args.members.now earned es e h)
    c.choices_of.ensures
