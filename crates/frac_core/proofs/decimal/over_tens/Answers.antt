use Rattle.std.proofs.Common.{◌≡◌, ◌*◌, ◌-◌, ◌^◌, arith, ap, subst, ◌∙◌}
use Rattle.frac_core.specs.Gcd.{gcd-one}
use Rattle.frac_core.specs.Decimal.{ten_power_pos}
use Rattle.frac_core.proofs.Decimals.{ten_step, across-ten, wide_across, fraction_across}
use Rattle.frac_core.specs.Results.{narrow}
use Rattle.frac_core.proofs.decimal.over_tens.Goals as goal

pub loop-left-init : goal.loop-left-init
loop-left-init c = record { positive = omega arith; apart = gcd-one c.args.digits; across = omega arith }

pub returns-then-parts-ge-BOUND : goal.returns-then-parts-ge-BOUND
returns-then-parts-ge-BOUND c =
    wide_across c.args.negative _ _ _ _ _ (ten_power_pos c.args.places) (ten_power_pos c.loop-left.left) c.loop-left.invariant.apart c.loop-left.invariant.across (omega arith)

pub loop-left-preserved : goal.loop-left-preserved
loop-left-preserved c =
    let before = subst (λ t. c.args.digits * (c.loop-left.parts.1 * t) ≡ c.loop-left.parts.0 * 10 ^ c.args.places) (ten_step c.loop-left.left (omega arith)) c.loop-left.invariant.across in
    record {
      positive = c.over_prime-parts.ensures.positive;
      apart = c.over_prime-parts.ensures.apart;
      across = across-ten c.args.digits _ _ _ _ _ _ (10 ^ (c.loop-left.left - 1)) (10 ^ c.args.places) c.loop-left.invariant.positive c.over_prime-halved.ensures.positive before c.over_prime-halved.ensures.across c.over_prime-parts.ensures.across;
    }

pub returns : goal.returns
returns c =
    let inv = c.loop-left.invariant in
    let power = ap (λ k. c.args.digits * (c.loop-left.parts.1 * 10 ^ k)) (let e : c.loop-left.left ≡ 0 = omega arith in e) in
    c.lowest.ensures
    ∙ ap narrow (fraction_across c.args.negative _ _ _ _ inv.positive (ten_power_pos c.args.places) (let e : c.loop-left.parts.0 * 10 ^ c.args.places ≡ c.args.digits * c.loop-left.parts.1 = omega arith in e))
