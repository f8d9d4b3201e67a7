use Rattle.module_parts.specs.Code.{file_in}
use Rattle.module_parts.proofs.WritersOf.{through_more}
use Rattle.module_parts.proofs.writers.WriterTable.of.Goals as goal

pub loop-el-preserved : goal.loop-el-preserved
loop-el-preserved c = λ i.
    through_more (file_in c.args.names.now) i c.args.elements.now c.loop-el.el-index c.el-item.result _ _
    c.loop-el-test.true c.el-item.is (c.loop-el.invariant i) (c.in_ok-add_element.ensures i)
