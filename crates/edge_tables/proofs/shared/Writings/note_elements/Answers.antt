use Rattle.std.specs.Prelude.{◌+◌, List, map, drop}
use Rattle.std.proofs.Common.{◌∙◌, ap, sym, arith}
use Rattle.basics.specs.Lists.{drop_item}
use Rattle.jani_tree.specs.Syntax.{automaton_of}
use Rattle.edge_tables.specs.declared.edges.ElementEdges.{ElementEdges}
use Rattle.edge_tables.specs.declared.edges.RankedEdge.{RankedEdge}
use Rattle.edge_tables.specs.Counts.{noting_edges, written_from}
use Rattle.edge_tables.specs.Code.{is_to_place, numbers_in, ranked_view, table_view, writing_at}
use Rattle.edge_tables.proofs.Looping.{unnoted}
use Rattle.edge_tables.proofs.shared.Writings.note_elements.Goals as goal

pub loop-k-preserved : goal.loop-k-preserved
loop-k-preserved c =
    let k = c.loop-k.k in
    let e = c.index-elements-k.result in
    let a = e.element in
    let rest = drop_item c.args.elements.now k e c.loop-k-test.true c.index-elements-k.is in
    record {
      count = c.note_edges.ensures.count ∙ c.loop-k.invariant.count;
      noted = λ i l.
          let to = is_to_place c.args.lasting.now i in
          let before = writing_at c.loop-k.self i in
          ap (written_from to (k + 1) (map table_view (drop (k + 1) c.args.elements.now)))
          (c.note_edges.ensures.noted i (omega (arith, l, c.loop-k.invariant.count))
          ∙ ap (λ (es : List RankedEdge). noting_edges (to k) k before (map ranked_view es)) c.as_slice.ensures.value
          ∙ sym (unnoted (to k) k (numbers_in e) (map ranked_view e.edges.items) a.accepts.now (automaton_of a.automaton.now) before))
          ∙ ap (λ (es : List ElementEdges). written_from to k (map table_view es) before) (sym rest)
          ∙ c.loop-k.invariant.noted i l;
    }
