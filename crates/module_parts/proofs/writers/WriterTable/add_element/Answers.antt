use Rattle.std.proofs.Common.{◌∙◌, sym, ap, map, take_all, arith, List}
use Rattle.std.specs.Prelude.{Bool}
use Rattle.std.specs.List.{list_any}
use Rattle.jani_tree.specs.declared.syntax.JaniEdge.{JaniEdge}
use Rattle.jani_tree.specs.Syntax as jani
use Rattle.edge_tables.specs.Elements.{some_write, is_to}
use Rattle.module_parts.specs.Code.{file_in}
use Rattle.module_parts.specs.Writers.{writers_at, with_if}
use Rattle.module_parts.proofs.OwnEdges.{own_writes}
use Rattle.module_parts.proofs.WritersOf.{with_more}
use Rattle.module_parts.proofs.writers.WriterTable.add_element.Goals as goal

pub loop-e-preserved : goal.loop-e-preserved
loop-e-preserved c = λ i.
    with_more (some_write (is_to (file_in c.args.names.now) i c.args.el.now.number)) jani.edge_of c.as_slice-e-items.result.now c.loop-e.e-index c.e-item.result c.args.el.now.number _ _ _
    c.loop-e-test.true c.e-item.is (c.loop-e.invariant i) (c.in_ok-add_edge.ensures i)

pub returns : goal.returns
returns c = λ i.
    let k = c.args.el.now.number in
    let p = is_to (file_in c.args.names.now) i k in
    c.loop-e.invariant i
    ∙ ap (λ (b : Bool). with_if b k (writers_at c.args.self.now i))
    (ap (λ (es : List JaniEdge). list_any (some_write p) (map jani.edge_of es)) (take_all c.loop-e.e-index c.as_slice-e-items.result.now (omega arith) ∙ c.as_slice-e-items.ensures)
    ∙ sym (own_writes p c.args.el.now.automaton))
