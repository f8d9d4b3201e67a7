use Rattle.std.proofs.Common.{ap, length, map, refl, ◌∙◌}
use Rattle.frac_core.specs.Sums.{total}
use Rattle.state_choices.specs.Views.{sum_of}
use Rattle.step_sim.specs.Walks.{weights}
use Rattle.step_sim.proofs.Drawn.{faces, is_whole, takes, too_wide}
use Rattle.step_sim.proofs.seeded.drawn_from.Goals as goal

pub draw-requires : goal.draw-requires
draw-requires g c =
    let cs = c.args.choices.now in
    let h = faces cs (length cs) c.next_u64-first.result c.index-choices-first.result c.in-Good.branches refl c.if-count-eq0.false c.index-choices-first.is c.in-Good.is in
    ap (λ l. total (weights l)) c.as_slice-branches.ensures ∙ is_whole c.args.state.now.values cs _ _ _ h c.requires

pub returns-in_ok-step_along-in-Ok-clause-step : goal.returns-in_ok-step_along-in-Ok-clause-step
returns-in_ok-step_along-in-Ok-clause-step g c =
    let cs = c.args.choices.now in
    let s = c.args.state.now.values in
    let h = faces cs (length cs) c.next_u64-first.result c.index-choices-first.result c.in-Good.branches refl c.if-count-eq0.false c.index-choices-first.is c.in-Good.is in
    takes s cs _ _ _ h (g.R.Rng.stream c.args.words.now) (g.R.Rng.stream c.next_u64-first.new.self) (g.R.Rng.stream c.next_u64-second.new.self) c.next_u64-second.result c.in-Ok.drawn c.as_slice-branches.result.now
    c.index-branches-drawn.result c.in_ok-step_along-in-Ok.field-0 c.next_u64-first.ensures c.next_u64-second.ensures c.as_slice-branches.ensures (c.in-Ok.ensures.drawn s (map sum_of c.index-choices-first.result.rewards.now)) c.index-branches-drawn.is c.in_ok-step_along-in-Ok.ensures

pub returns-in-Err-clause-step : goal.returns-in-Err-clause-step
returns-in-Err-clause-step g c =
    let cs = c.args.choices.now in
    let s = c.args.state.now.values in
    let h = faces cs (length cs) c.next_u64-first.result c.index-choices-first.result c.in-Good.branches refl c.if-count-eq0.false c.index-choices-first.is c.in-Good.is in
    too_wide s cs _ _ _ h (g.R.Rng.stream c.args.words.now) (g.R.Rng.stream c.next_u64-first.new.self) (g.R.Rng.stream c.next_u64-second.new.self) c.next_u64-second.result c.as_slice-branches.result.now
    c.next_u64-first.ensures c.next_u64-second.ensures c.as_slice-branches.ensures (c.in-Err.ensures.drawn s (map sum_of c.index-choices-first.result.rewards.now))
