use Rattle.std.proofs.Common.{◌≡◌, ◌*ℤ◌, ◌*◌, ap₂, ◌∙◌, to_z, of_z}
use Rattle.std.proofs.lemmas.Int.{to_z-of_z}
use mir.Syntax.{w128}
use Rattle.frac_core.specs.Fraction.{fraction, times}
use Rattle.frac_core.specs.Results.{narrow}
use Rattle.frac_core.proofs.fraction.Frac.mul.Goals as goal

pub returns : goal.returns
unfolding times
returns c =
    let a : to_z w128 (of_z w128 c.wide_num.result) ≡ c.args.self.num = to_z-of_z w128 _ (record { sfits = c.wide_num.type_inv }) ∙ c.wide_num.ensures.value in
    let b : to_z w128 (of_z w128 c.wide_num-2.result) ≡ c.args.other.num = to_z-of_z w128 _ (record { sfits = c.wide_num-2.type_inv }) ∙ c.wide_num-2.ensures.value in
    let whole : to_z w128 (of_z w128 c.product-num.result) ≡ c.args.self.num *ℤ c.args.other.num = to_z-of_z w128 _ (record { sfits = c.product-num.type_inv }) ∙ c.product-num.ensures.value ∙ ap₂ (λ x y. x *ℤ y) a b in
    c.reduced.ensures ∙ ap₂ (λ n d. narrow (fraction n d)) whole (ap₂ (λ a b. a * b) c.wide_den.ensures.value c.wide_den-2.ensures.value)
