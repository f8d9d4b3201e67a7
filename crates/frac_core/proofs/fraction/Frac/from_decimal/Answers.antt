use Rattle.std.proofs.Common.{◌≡◌, ap, ◌∙◌, arith, to_z, of_z, Ok}
use Rattle.std.proofs.lemmas.Int.{ints}
use mir.Syntax.{w32}
use Rattle.frac_core.specs.Fraction.{whole, times, signed}
use Rattle.frac_core.specs.Decimal.{ten_to, decimal_value}
use Rattle.frac_core.proofs.Decimals.{value_zero}
use Rattle.frac_core.specs.Results.{narrow}
use Rattle.frac_core.proofs.fraction.Frac.from_decimal.Goals as goal

pub returns-then-digits-eq0 : goal.returns-then-digits-eq0
unfolding decimal_value
returns-then-digits-eq0 c = ap Ok c.zero.ensures ∙ value_zero c.args.d.negative c.args.d.digits c.args.d.exponent (omega arith)

pub returns : goal.returns
unfolding decimal_value
returns c =
    let exponent : to_z w32 (of_z w32 c.args.d.exponent) ≡ c.args.d.exponent = omega (arith, ints) in
    c.times_power_of_ten.ensures ∙ ap (λ e. narrow (times (whole (signed c.args.d.negative c.args.d.digits)) (ten_to e))) exponent
