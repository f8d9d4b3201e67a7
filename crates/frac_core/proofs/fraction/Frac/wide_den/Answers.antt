use Rattle.std.proofs.Common.{◌≡◌, nat_abs, ap, ◌∙◌, arith, to_z, of_z, w64}
use Rattle.std.proofs.lemmas.Int.{ints}
use Rattle.frac_core.proofs.Parts.{den_behind}
use Rattle.frac_core.proofs.fraction.Frac.wide_den.Goals as goal

pub returns-clause-value : goal.returns-clause-value
returns-clause-value c =
    let e = den_behind c.args.self c.self.inside.num c.self.inside.den c.self.invariant c.self.view_is in
    let inv = c.self.invariant in
    let same : to_z w64 (of_z w64 c.self.inside.den) ≡ c.self.inside.den = omega (arith, ints) in
    c.from.ensures ∙ c.unsigned_abs.ensures.value ∙ ap nat_abs (same ∙ e)
