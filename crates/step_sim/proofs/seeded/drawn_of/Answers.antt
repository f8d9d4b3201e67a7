use Rattle.std.proofs.Common.{◌∙◌, refl, sym, ap, map, subst}
use Rattle.state_choices.specs.Grouped.{AreGroupsAt}
use Rattle.state_choices.specs.Views.{group_of}
use Rattle.step_sim.proofs.AtGroups.{are_whole}
use Rattle.step_sim.proofs.seeded.drawn_of.Goals as goal

pub drawn_among-requires : goal.drawn_among-requires
drawn_among-requires g c =
    let p = g.S.Steps.process c.args.s.now in
    let s = c.args.state.now.values in
    let h = subst (AreGroupsAt p s) (sym (ap (map group_of) c.as_slice.ensures.value ∙ c.in_ok-groups.ensures)) c.requires.groups in
    λ narrow. are_whole p s _ h _ (narrow, refl) (g.met.S.Steps.lawful c.args.s.now) c.requires.state

pub returns-clause-step : goal.returns-clause-step
returns-clause-step g c =
    let p = g.S.Steps.process c.args.s.now in
    c.drawn_among.ensures.step p (subst (AreGroupsAt p c.args.state.now.values) (sym (ap (map group_of) c.as_slice.ensures.value ∙ c.in_ok-groups.ensures)) c.requires.groups)
