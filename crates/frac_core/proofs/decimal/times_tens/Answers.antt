use Rattle.std.proofs.Common.{◌≡◌, ◌*◌, ◌-◌, ◌^◌, arith, ap}
use Rattle.frac_core.specs.Gcd.{gcd-one}
use Rattle.frac_core.proofs.Decimals.{ten_step, wide_times}
use Rattle.frac_core.proofs.decimal.times_tens.Goals as goal

pub returns-then-size-ge-BOUND : goal.returns-then-size-ge-BOUND
returns-then-size-ge-BOUND c = wide_times c.args.negative _ c.loop-left.size c.loop-left.left c.loop-left.invariant (omega arith)

pub loop-left-preserved : goal.loop-left-preserved
loop-left-preserved c =
    let power = ap (λ k. c.loop-left.size * k) (ten_step c.loop-left.left (omega arith)) in
    let before = c.loop-left.invariant in
    let r : c.loop-left.size * 10 * 10 ^ (c.loop-left.left - 1) ≡ c.args.digits * 10 ^ c.args.places = omega arith in
    r

pub lowest-requires-clause-apart : goal.lowest-requires-clause-apart
lowest-requires-clause-apart c = gcd-one _
