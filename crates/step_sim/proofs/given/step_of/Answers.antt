use Rattle.std.proofs.Common.{◌∙◌, sym, ap, map, subst}
use Rattle.state_choices.specs.Grouped.{AreGroupsAt}
use Rattle.state_choices.specs.Views.{group_of}
use Rattle.step_sim.proofs.given.step_of.Goals as goal

pub returns : goal.returns
returns g c =
    let p = g.S.Steps.process c.args.s.now in
    c.step_among.ensures p (subst (AreGroupsAt p c.args.state.now.values) (sym (ap (map group_of) c.as_slice.ensures.value ∙ c.in_ok-groups.ensures)) c.requires)
