use Rattle.std.proofs.Common.{◌≡◌, pos, ◌*ℤ◌, ap, ap₂, ◌∙◌, to_z, of_z, Err, if◌then◌else◌}
use Rattle.std.proofs.lemmas.Int.{to_z-of_z}
use Rattle.std.specs.Ordering.{int_eq}
use mir.Syntax.{w128}
use Rattle.frac_core.specs.Fraction.{quotient, over}
use Rattle.frac_core.specs.Laws.{den_pos}
use Rattle.frac_core.specs.Results.{narrow}
use Rattle.frac_core.proofs.Parts.{int_eq-mul}
use Rattle.frac_core.specs.declared.fraction.FracFail.TheVariants.{ZeroDivisor}
use Rattle.frac_core.proofs.fraction.Frac.div.Goals as goal

pub returns : goal.returns
unfolding over
returns c =
    let x = c.args.self in
    let y = c.args.other in
    let num : to_z w128 (of_z w128 c.across.result) ≡ x.num *ℤ pos y.den = to_z-of_z w128 _ (record { sfits = c.across.type_inv }) ∙ c.across.ensures.value in
    let den : to_z w128 (of_z w128 c.across-2.result) ≡ y.num *ℤ pos x.den = to_z-of_z w128 _ (record { sfits = c.across-2.type_inv }) ∙ c.across-2.ensures.value in
    c.quotient.ensures
    ∙ ap₂ (λ n d. if int_eq d (pos 0) then Err ZeroDivisor else narrow (quotient n d)) num den
    ∙ ap (λ b. if b then Err ZeroDivisor else narrow (quotient (x.num *ℤ pos y.den) (y.num *ℤ pos x.den))) (int_eq-mul y.num x.den (den_pos x))
