use Rattle.std.proofs.Common.{arith}
use Rattle.std.proofs.lemmas.Int.{ints}
use Rattle.frac_core.proofs.Parts.{num_behind}
use Rattle.frac_core.proofs.fraction.Frac.num.Goals as goal

pub returns-clause-value : goal.returns-clause-value
returns-clause-value c =
    let e = num_behind c.args.self c.self.inside.num c.self.inside.den c.self.invariant c.self.view_is in
    let inv = c.self.invariant in
    omega (arith, ints)
