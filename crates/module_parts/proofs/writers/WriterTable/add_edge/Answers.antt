use Rattle.std.specs.List.{list_any}
use Rattle.jani_tree.specs.Syntax as jani
use Rattle.edge_tables.specs.Elements.{is_to}
use Rattle.module_parts.specs.Code.{file_in}
use Rattle.module_parts.proofs.WritersOf.{with_more}
use Rattle.module_parts.proofs.writers.WriterTable.add_edge.Goals as goal

pub loop-d-preserved : goal.loop-d-preserved
loop-d-preserved c = λ i.
    with_more (λ d. list_any (is_to (file_in c.args.names.now) i c.args.element) d.writes) jani.destination_of c.as_slice-d-items.result.now c.loop-d.d-index c.d-item.result c.args.element _ _ _
    c.loop-d-test.true c.d-item.is (c.loop-d.invariant i) (c.in_ok-add_destination.ensures i)
