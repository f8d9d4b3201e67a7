use Rattle.std.proofs.Common.{[]}
use Rattle.prism_targets.specs.Marks.{given_by}
use Rattle.prism_modules.specs.Code.{element_of}
use Rattle.gathering.proofs.Loops.{flat_seen}
use Rattle.jani_to_prism.proofs.given.given_by_all.Goals as goal

pub loop-el-preserved : goal.loop-el-preserved
loop-el-preserved c = λ x.
    flat_seen (given_by x) element_of c.args.elements.now c.loop-el.el-index c.el-item.result [] _ _ c.loop-el-test.true c.el-item.is (c.loop-el.invariant x) (c.in_ok-add_given.ensures x)
