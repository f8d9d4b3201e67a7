use Rattle.std.proofs.Common.{pos, nat_abs, int_lt, ap, sym, ◌∙◌}
use Rattle.std.proofs.lemmas.Int.{to_z-of_z}
use mir.Syntax.{w32}
use Rattle.frac_core.proofs.Decimals.{value_times, value_over}
use Rattle.frac_core.specs.Results.{narrow}
use Rattle.frac_core.proofs.decimal.times_power_of_ten.Goals as goal

pub returns-then-exponent-lt0 : goal.returns-then-exponent-lt0
returns-then-exponent-lt0 c =
    let e = to_z-of_z w32 c.args.exponent c.ranges.exponent in
    c.over_tens.ensures
    ∙ ap narrow (value_over c.args.negative c.args.digits _ c.args.exponent (c.unsigned_abs-places.ensures.value ∙ ap nat_abs e) (ap (λ z. int_lt z (pos 0)) (sym e) ∙ c.if-exponent-lt0.true))

pub returns-else-exponent-lt0 : goal.returns-else-exponent-lt0
returns-else-exponent-lt0 c =
    let e = to_z-of_z w32 c.args.exponent c.ranges.exponent in
    c.times_tens.ensures
    ∙ ap narrow (value_times c.args.negative c.args.digits _ c.args.exponent (c.unsigned_abs-places.ensures.value ∙ ap nat_abs e) (ap (λ z. int_lt z (pos 0)) (sym e) ∙ c.if-exponent-lt0.false))
