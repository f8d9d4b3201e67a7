use Rattle.std.proofs.Common.{◌∙◌, refl, sym, ap, map, List}
use Rattle.jani_tree.specs.declared.syntax.JaniEdge.{JaniEdge}
use Rattle.jani_tree.specs.Syntax.{edge_of}
use Rattle.jani_loops.specs.declared.accepting.ElementAutomaton.{ElementAutomaton}
use Rattle.jani_loops.specs.Elements.{element_view}
use Rattle.edge_tables.specs.Tables.{table_of}
use Rattle.edge_tables.specs.Code.{pays_by}
use Rattle.edge_tables.proofs.Looping.{looped_table, shape_is}
use Rattle.edge_tables.proofs.edges.ElementEdges.of.Goals as goal

pub returns-clause-edges : goal.returns-clause-edges
returns-clause-edges c =
    let q = pays_by c.args.structures.now c.args.number in
    let same = c.add_all.ensures.element ∙ c.new-all.ensures.element in
    looped_table q c.add_all.new.self c.accept.new.self (λ x l. refl) c.accept.ensures.element c.accept.ensures.edges c.accept.ensures.numbers c.in_ok-accept.ensures.plain
    (c.in_ok-add_all.ensures.edges c.new-all.ensures.edges
    ∙ ap (λ (es : List JaniEdge). table_of q (map edge_of es)) c.as_slice.ensures
    ∙ ap (λ (e : ElementAutomaton). table_of q (map edge_of e.automaton.now.edges)) (sym same))
    ∙ ap (λ (e : ElementAutomaton). table_of q (element_view e).edges) same

pub returns-clause-shape : goal.returns-clause-shape
returns-clause-shape c =
    let q = pays_by c.args.structures.now c.args.number in
    shape_is q c.accept.new.self c.add_all.new.self c.args.element.now (c.accept.ensures.element ∙ c.add_all.ensures.element ∙ c.new-all.ensures.element) c.accept.ensures.edges
    (c.in_ok-add_all.ensures.edges c.new-all.ensures.edges ∙ ap (λ (es : List JaniEdge). table_of q (map edge_of es)) c.as_slice.ensures)
