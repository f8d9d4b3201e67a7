use Rattle.std.proofs.Common.{◌≡◌, ◌<◌, ℤ, pos, negsuc, ◌-ℤ◌, neg_ℤ, true, Err, if◌then◌else◌, ltb-true, refl, sym, ap, ap₂, ◌∙◌, to_z, of_z, rules, arith}
use Rattle.std.specs.Prelude.{FitsSigned, int_lt, nat_abs}
use Rattle.std.specs.Ordering.{int_eq}
use Rattle.std.proofs.lemmas.Int.{to_z-of_z}
use mir.Syntax.{w128}
use Rattle.frac_core.specs.Fraction.{fraction, quotient}
use Rattle.frac_core.specs.Results.{narrow}
use Rattle.frac_core.specs.declared.fraction.FracFail.TheVariants.{ZeroDivisor}
use Rattle.frac_core.proofs.Parts.{minus}
use Rattle.frac_core.proofs.fraction.Frac.quotient.Goals as goal

-- over a negative denominator
turned : (n d : ℤ) → int_lt d (pos 0) ≡ true → narrow (fraction (neg_ℤ n) (nat_abs d)) ≡ (if int_eq d (pos 0) then Err ZeroDivisor else narrow (quotient n d))
turned n (pos k) e = let h : k < 0 = ltb-true k 0 e in absurd (omega arith)
turned n (negsuc k) e = refl

pub returns-then-den-lt0 : goal.returns-then-den-lt0
returns-then-den-lt0 c =
    let d = to_z-of_z w128 c.args.den c.ranges.den in
    let f : FitsSigned w128 (pos 0 -ℤ to_z w128 (of_z w128 c.args.num)) = search rules in
    c.reduced.ensures
    ∙ ap₂ (λ x k. narrow (fraction x k)) (to_z-of_z w128 _ f ∙ minus _ _ (to_z-of_z w128 c.args.num c.ranges.num)) (c.unsigned_abs.ensures.value ∙ ap nat_abs d)
    ∙ turned c.args.num c.args.den (ap (λ x. int_lt x (pos 0)) (sym d) ∙ c.if-den-lt0.true)
