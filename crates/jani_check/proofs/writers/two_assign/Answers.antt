use Rattle.std.specs.Prelude.{false}
use Rattle.std.proofs.Common.{◌∙◌, sym, ap}
use Rattle.jani_check.specs.Rewarding.{holds_with, rewarded_in}
use Rattle.jani_check.proofs.Anys.{no_parts_left}
use Rattle.jani_check.proofs.Taking.{holds_none}
use Rattle.jani_check.proofs.writers.two_assign.Goals as goal

pub returns : goal.returns
returns c =
    sym (holds_none c.loop-i.one)
    ∙ sym (ap (holds_with c.loop-i.one) (no_parts_left false rewarded_in c.args.elements.now c.args.parts.now c.loop-i.i c.min-count.result c.min-count.ensures c.loop-i-test.false))
    ∙ c.loop-i.invariant
