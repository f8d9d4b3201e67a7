use Rattle.std.proofs.Common.{pos, ◌-ℤ◌, ap, ap₂, ◌∙◌, to_z, of_z, rules}
use Rattle.std.specs.Prelude.{FitsSigned}
use Rattle.std.specs.Int.{int_div_euclid}
use Rattle.std.proofs.lemmas.Int.{to_z-of_z}
use mir.Syntax.{w64}
use Rattle.frac_core.specs.Fraction.{whole}
use Rattle.frac_core.proofs.Parts.{minus}
use Rattle.frac_core.proofs.fraction.Frac.ceil.Goals as goal

pub returns : goal.returns
returns c =
    let m = to_z-of_z w64 c.num.result (record { sfits = c.num.type_inv }) ∙ c.num.ensures.value in
    let d = to_z-of_z w64 c.den.result (record { sfits = c.den.type_inv }) ∙ c.den.ensures.value in
    let q = to_z-of_z w64 c.div_euclid.result (record { sfits = c.div_euclid.type_inv }) in
    let f : FitsSigned w64 (pos 0 -ℤ to_z w64 (of_z w64 c.num.result)) = search rules in
    let g : FitsSigned w64 (pos 0 -ℤ to_z w64 (of_z w64 c.div_euclid.result)) = search rules in
    c.whole_number.ensures
    ∙ ap whole (to_z-of_z w64 _ g ∙ minus _ _ (q ∙ c.div_euclid.ensures ∙ ap₂ int_div_euclid (to_z-of_z w64 _ f ∙ minus _ _ m) d))
