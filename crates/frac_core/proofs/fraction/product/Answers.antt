use Rattle.std.proofs.Common.{◌≡◌, ◌*ℤ◌, ◌^◌, nat_abs, ap, ap₂, ◌∙◌, arith, to_z, of_z}
use Rattle.std.proofs.lemmas.Int.{to_z-of_z, fits_signed_mul, unsigned_abs-mul}
use Rattle.std.proofs.lemmas.Nat.{mul-lt}
use mir.Syntax.{w128}
use Rattle.frac_core.proofs.fraction.product.Goals as goal

both_fit : (c : goal.Start) → to_z w128 (of_z w128 c.args.a) *ℤ to_z w128 (of_z w128 c.args.b) ≡ c.args.a *ℤ c.args.b
both_fit c = ap₂ (λ x y. x *ℤ y) (to_z-of_z w128 c.args.a c.ranges.a) (to_z-of_z w128 c.args.b c.ranges.b)

pub returns-clause-value : goal.returns-clause-value
returns-clause-value c =
    ap (λ x. to_z w128 (of_z w128 x)) (both_fit c)
    ∙ to_z-of_z w128 _ (fits_signed_mul w128 c.args.a c.args.b (2 ^ 62) (2 ^ 62) (omega arith) (omega arith) (omega arith))

pub returns-clause-bound : goal.returns-clause-bound
returns-clause-bound c =
    let e = returns-clause-value c in
    let h = mul-lt (nat_abs c.args.a) (nat_abs c.args.b) (2 ^ 62) (2 ^ 62) c.requires.first c.requires.second in
    let f = ap nat_abs e ∙ unsigned_abs-mul c.args.a c.args.b in
    omega arith
