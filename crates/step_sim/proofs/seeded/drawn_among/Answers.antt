use Rattle.std.proofs.Common.{◌∙◌, sym, ap, map, subst}
use Rattle.std.specs.List.{All}
use Rattle.frac_core.specs.Fraction.{Fraction}
use Rattle.process_core.specs.Process.{Choice}
use Rattle.process_core.specs.Ready.{Values, Name}
use Rattle.state_choices.specs.Open.{open_choice}
use Rattle.step_sim.specs.Walks.{IsWhole}
use Rattle.step_sim.proofs.AtGroups.{drawn_of, many_drawn, wide_drawn}
use Rattle.step_sim.proofs.seeded.drawn_among.Goals as goal

pub drawn_from-requires : goal.drawn_from-requires
drawn_from-requires g c =
    let s = c.args.state.now.values in
    let told = c.in-Ok.ensures s in
    subst (All (λ (c : Choice Name Fraction Values). IsWhole c.outcome)) (sym (ap (map (open_choice s)) c.as_slice.ensures ∙ told.1)) (c.requires told.0)

pub returns-in-Ok-clause-step : goal.returns-in-Ok-clause-step
returns-in-Ok-clause-step g c =
    let s = c.args.state.now.values in
    let told = c.in-Ok.ensures s in
    λ p h. drawn_of p s _ h (map (open_choice s) c.as_slice.result.now) (told.0, ap (map (open_choice s)) c.as_slice.ensures ∙ told.1) _ _ c.drawn_from.result c.drawn_from.ensures.step

pub returns-in-Err-Wide-clause-step : goal.returns-in-Err-Wide-clause-step
returns-in-Err-Wide-clause-step g c =
    λ p h. wide_drawn p c.args.state.now.values _ h _ c.in-Err-Wide.field-0 (c.in-Err-Wide.ensures c.args.state.now.values) c.in-Err-Wide.field-0-is

pub returns-in-Err-TooMany-clause-step : goal.returns-in-Err-TooMany-clause-step
returns-in-Err-TooMany-clause-step g c =
    λ p h. many_drawn p c.args.state.now.values _ h _ c.in-Err-TooMany.field-0 (c.in-Err-TooMany.ensures c.args.state.now.values) c.in-Err-TooMany.field-0-is
