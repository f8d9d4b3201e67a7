use Rattle.std.proofs.Common.{◌∙◌, map, ap}
use Rattle.state_choices.specs.Views.{group_of}
use Rattle.state_choices.proofs.MemberLaws.{member_laws}
use Rattle.state_choices.proofs.Whole.{of_module_groups}
use Rattle.state_choices.proofs.groups.choices_of_modules.Goals as goal

pub returns : goal.returns
returns c = λ earned ms e k h.
    of_module_groups c.args.s.now.values c.choices_of.result earned ms _
    (ap (map group_of) c.as_slice.ensures.value ∙ c.in_ok-groups.ensures ∙ member_laws.modules c.args.rewards.now c.args.actions.now c.args.members.now earned ms e k h)
    c.choices_of.ensures
