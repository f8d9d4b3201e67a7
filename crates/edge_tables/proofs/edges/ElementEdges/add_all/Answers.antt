use Rattle.std.specs.Prelude.{List, map, is_some}
use Rattle.std.specs.List.{list_any}
use Rattle.std.proofs.Common.{◌∙◌, ap, take_all}
use Rattle.jani_tree.specs.declared.syntax.JaniEdge.{JaniEdge}
use Rattle.jani_tree.specs.declared.syntax.JaniDestination.{JaniDestination}
use Rattle.jani_tree.specs.Syntax.{Destination, Write, destination_of, edge_of}
use Rattle.edge_tables.specs.Tables.{table_of}
use Rattle.edge_tables.specs.Code.{pays_by}
use Rattle.edge_tables.specs.Places.{place_in}
use Rattle.edge_tables.proofs.EdgeTables.{table_step}
use Rattle.edge_tables.proofs.edges.ElementEdges.add_all.Goals as goal

pub loop-e-preserved : goal.loop-e-preserved
loop-e-preserved c = record {
  element = c.add.ensures.element ∙ c.loop-e.invariant.element;
  edges = λ h.
      table_step (pays_by c.args.structures.now c.args.number) edge_of c.args.edges.now c.loop-e.e-index c.e-item.result _ _ c.assigns-rewarding.result
      c.loop-e-test.true c.e-item.is (c.loop-e.invariant.edges h) c.in_ok-add.ensures.edges
      (c.assigns-rewarding.ensures
      ∙ ap (λ (ds : List JaniDestination). list_any (λ (d : Destination). list_any (λ (w : Write). is_some (place_in c.args.structures.now c.args.number w.target.name)) d.writes) (map destination_of ds)) c.as_slice.ensures);
}

pub returns-clause-edges : goal.returns-clause-edges
returns-clause-edges c = λ h.
    c.loop-e.invariant.edges h
    ∙ ap (λ (l : List JaniEdge). table_of (pays_by c.args.structures.now c.args.number) (map edge_of l)) (take_all c.loop-e.e-index c.args.edges.now c.loop-e-test.false)
