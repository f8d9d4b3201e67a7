use Rattle.std.proofs.Common.{◌∙◌, ap, refl, arith}
use Rattle.std.proofs.lemmas.Int.{to_z-of_z}
use mir.Syntax.{w64}
use Rattle.frac_core.specs.Fraction.{fraction, whole, whole_lowest}
use Rattle.frac_core.specs.Laws.{fraction_lowest}
use Rattle.frac_core.proofs.Parts.{kept_parts}
use Rattle.frac_core.proofs.fraction.Frac.whole_number.Goals as goal

pub invariant_of-result : goal.invariant_of-result
invariant_of-result c = kept_parts (whole c.args.num) _ _ (to_z-of_z w64 c.args.num c.ranges.num) refl c.requires (omega arith)

pub returns : goal.returns
returns c = ap (λ z. fraction z 1) (to_z-of_z w64 c.args.num c.ranges.num) ∙ fraction_lowest c.args.num 1 (whole_lowest c.args.num)
