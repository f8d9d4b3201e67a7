use Rattle.std.proofs.Common.{map}
use Rattle.state_choices.specs.Open.{open_choice}
use Rattle.step_sim.proofs.AtGroups.{given_of, many_given, wide_given}
use Rattle.step_sim.proofs.given.step_among.Goals as goal

pub returns-in-Ok : goal.returns-in-Ok
returns-in-Ok c =
    let s = c.args.state.now.values in
    λ p h. given_of p s _ h (map (open_choice s) c.in-Ok.choices) (c.in-Ok.ensures s) c.args.pair c.step_from.result c.step_from.ensures

pub returns-in-Err-Wide : goal.returns-in-Err-Wide
returns-in-Err-Wide c = λ p h. wide_given p c.args.state.now.values _ h c.args.pair c.in-Err-Wide.field-0 (c.in-Err-Wide.ensures c.args.state.now.values) c.in-Err-Wide.field-0-is

pub returns-in-Err-TooMany : goal.returns-in-Err-TooMany
returns-in-Err-TooMany c = λ p h. many_given p c.args.state.now.values _ h c.args.pair c.in-Err-TooMany.field-0 (c.in-Err-TooMany.ensures c.args.state.now.values) c.in-Err-TooMany.field-0-is
