use Rattle.jani_tree.specs.Syntax as jani
use Rattle.edge_tables.specs.Elements.{is_to}
use Rattle.module_parts.specs.Code.{file_in}
use Rattle.module_parts.proofs.WritersOf.{with_more}
use Rattle.module_parts.proofs.writers.WriterTable.add_destination.Goals as goal

pub loop-w-preserved : goal.loop-w-preserved
loop-w-preserved c = λ i.
    with_more (is_to (file_in c.args.names.now) i c.args.element) jani.write_of c.as_slice-w-items.result.now c.loop-w.w-index c.w-item.result c.args.element _ _ _
    c.loop-w-test.true c.w-item.is (c.loop-w.invariant i) (c.in_ok-add_write.ensures i)
