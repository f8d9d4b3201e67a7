use Rattle.std.proofs.Common.{◌∙◌, ap, drop, map, refl}
use Rattle.process_core.specs.Ready.{of_elements}
use Rattle.jani_tree.specs.Syntax.{file_of}
use Rattle.jani_meaning.specs.Moment.{moment}
use Rattle.jani_meaning.specs.Process.{no_reward}
use Rattle.state_choices.specs.Trimmed.{trimmed_group}
use Rattle.state_choices.proofs.AtGroups.{trimmed_at}
use Rattle.state_choices.proofs.GroupLaws.{group_laws}
use Rattle.instance_start.specs.Given.{given_by}
use Rattle.jani_instance.specs.Described.{described}
use Rattle.jani_instance.specs.Sound.{groups_at, no_rewards}
use Rattle.jani_instance.specs.Views.{groups_of, member_of, setting_of}
use Rattle.jani_instance.proofs.instance.evaluated_at.Goals as goal

pub returns : goal.returns
returns c =
    let i = c.args.instance.now in
    let file = file_of i.checked.now in
    let v = given_by i.given.now in
    let k = setting_of c.here-here.result in
    let m = moment file v c.args.s.now.values in
    let rewards = map (λ r. no_reward) m.rewards in
    trimmed_at (described file v) c.args.s.now.values (groups_at m) _ (of_elements rewards m.vectors m.elements)
    (ap (λ rs. groups_of rs (map member_of c.in_ok-members.members.items) i.vectors.items) (c.in_ok-rewards.ensures ∙ ap no_rewards c.structures.ensures)
    ∙ ap (λ ms. groups_of (no_rewards (drop i.labels i.transients.items)) ms i.vectors.items) c.in_ok-members.ensures
    ∙ c.here-here.ensures.right.groups
    ∙ ap (λ z. map trimmed_group (groups_at (moment file v z))) c.here-here.ensures.values)
    (group_laws.elements rewards m.vectors m.elements) refl refl
