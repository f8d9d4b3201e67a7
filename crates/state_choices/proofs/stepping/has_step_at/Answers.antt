use Rattle.std.proofs.Common.{◌≡◌, Bool, map, subst, sym, ap, ◌∙◌}
use Rattle.process_core.specs.Paths.{is_step}
use Rattle.state_choices.specs.Grouped.{AreGroupsAt}
use Rattle.state_choices.specs.Views.{group_of}
use Rattle.state_choices.proofs.AtGroups.{answers_at}
use Rattle.state_choices.proofs.stepping.has_step_at.Goals as goal

pub returns : goal.returns
returns g c =
    let p = g.S.Steps.process c.args.s.now in
    let s = c.args.from.now.values in
    let h = subst (AreGroupsAt p s) (sym (ap (map group_of) c.as_slice.ensures.value ∙ c.in_ok-groups.ensures)) c.requires in
    answers_at p s _ h (λ cs (b : Bool). b ≡ is_step cs c.args.label.now c.args.to.now.values) c.has_step_of.result c.has_step_of.ensures
