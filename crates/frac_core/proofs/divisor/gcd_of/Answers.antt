use Rattle.std.proofs.Common.{◌∙◌, sym, arith}
use Rattle.frac_core.specs.Gcd.{gcd_step, gcd_end}
use Rattle.frac_core.proofs.divisor.gcd_of.Goals as goal

pub loop-y-preserved : goal.loop-y-preserved
loop-y-preserved c = gcd_step _ _ ∙ c.loop-y.invariant

pub returns-then-y-eq0 : goal.returns-then-y-eq0
returns-then-y-eq0 c = sym (gcd_end _ _ (omega arith)) ∙ c.loop-y.invariant

pub returns : goal.returns
returns c = c.from.ensures ∙ c.gcd_of_words.ensures ∙ gcd_step _ _ ∙ c.loop-y.invariant
