use Rattle.std.proofs.Common.{◌≡◌, ◌+ℤ◌, ◌*◌, ap₂, ◌∙◌, arith, to_z, of_z}
use Rattle.std.proofs.lemmas.Int.{ints}
use mir.Syntax.{w128}
use Rattle.frac_core.specs.Fraction.{fraction, plus}
use Rattle.frac_core.specs.Results.{narrow}
use Rattle.frac_core.proofs.fraction.Frac.add.Goals as goal

pub returns : goal.returns
unfolding plus
returns c =
    let sum : to_z w128 (of_z w128 (to_z w128 (of_z w128 c.across.result) +ℤ to_z w128 (of_z w128 c.across-2.result))) ≡ c.across.result +ℤ c.across-2.result = omega (arith, ints) in
    c.reduced.ensures
    ∙ ap₂ (λ n d. narrow (fraction n d)) (sum ∙ ap₂ (λ x y. x +ℤ y) c.across.ensures.value c.across-2.ensures.value) (ap₂ (λ a b. a * b) c.wide_den.ensures.value c.wide_den-2.ensures.value)
