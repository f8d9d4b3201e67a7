use Rattle.std.proofs.Common.{◌≡◌, pos, ◌/◌, nat_abs, int_lt, ap, ap₂, ◌∙◌}
use Rattle.std.proofs.lemmas.Int.{to_z-of_z}
use mir.Syntax.{w128}
use Rattle.frac_core.specs.Fraction.{fraction, signed}
use Rattle.frac_core.specs.Gcd.{gcd, gcd-one}
use Rattle.frac_core.proofs.Parts.{shared_pos, den-shared_pos, gcd-shared, fraction_reduced, signed-nat_abs}
use Rattle.frac_core.specs.Results.{narrow}
use Rattle.frac_core.proofs.fraction.Frac.reduced.Goals as goal

pub nonzero_div-size : goal.nonzero_div-size
nonzero_div-size c = shared_pos _ _ _ c.requires c.gcd_of-common.ensures

pub nonzero_div-den : goal.nonzero_div-den
nonzero_div-den c = shared_pos _ _ _ c.requires c.gcd_of-common.ensures

pub lowest-requires-clause-apart : goal.lowest-requires-clause-apart
lowest-requires-clause-apart c = rw c.if-den-eq1.true (gcd-one _)

pub lowest-requires-2-clause-positive : goal.lowest-requires-2-clause-positive
lowest-requires-2-clause-positive c = den-shared_pos _ _ _ c.requires c.gcd_of-common.ensures

pub lowest-requires-2-clause-apart : goal.lowest-requires-2-clause-apart
lowest-requires-2-clause-apart c = gcd-shared _ _ _ c.requires c.gcd_of-common.ensures

pub returns-then-den-eq1 : goal.returns-then-den-eq1
returns-then-den-eq1 c =
    let num = to_z-of_z w128 c.args.num c.ranges.num in
    let size : c.unsigned_abs-size.result ≡ nat_abs c.args.num = c.unsigned_abs-size.ensures.value ∙ ap nat_abs num in
    c.lowest.ensures
    ∙ ap₂ (λ z n. narrow (fraction (signed (int_lt z (pos 0)) n) c.args.den)) num size
    ∙ ap (λ z. narrow (fraction z c.args.den)) (signed-nat_abs c.args.num)

pub returns : goal.returns
returns c =
    let num = to_z-of_z w128 c.args.num c.ranges.num in
    let size : c.unsigned_abs-size.result ≡ nat_abs c.args.num = c.unsigned_abs-size.ensures.value ∙ ap nat_abs num in
    c.lowest-2.ensures
    ∙ ap₂ (λ z n. narrow (fraction (signed (int_lt z (pos 0)) (n / c.gcd_of-common.result)) (c.args.den / c.gcd_of-common.result))) num size
    ∙ ap narrow (fraction_reduced c.args.num c.args.den _ c.requires (c.gcd_of-common.ensures ∙ ap (λ n. gcd n c.args.den) size))
