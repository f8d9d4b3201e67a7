use Rattle.std.proofs.Common.{arith}
use Rattle.frac_core.proofs.Worth.{strip_product, few_zeros}
use Rattle.frac_core.proofs.numeral.stripped.Goals as goal

pub loop-left-preserved : goal.loop-left-preserved
loop-left-preserved c =
    let h = c.loop-left.invariant in
    let p = strip_product _ _ _ c.loop-left-test.true h.product in
    record { product = p; above = omega arith; few = few_zeros _ _ _ (omega arith) p c.requires.below }
