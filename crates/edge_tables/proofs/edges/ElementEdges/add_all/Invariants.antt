use Rattle.std.proofs.Common.{◌≡◌, map, take}
use Rattle.jani_tree.specs.Syntax.{edge_of}
use Rattle.edge_tables.specs.Tables.{table_of}
use Rattle.edge_tables.specs.Code.{own_table, no_edges, pays_by}
use Rattle.edge_tables.proofs.edges.ElementEdges.add_all.Given as goal

abbrev pub invariant-loop-e : goal.invariant-loop-e
invariant-loop-e l = record {
  element : l.self.element ≡ l.initial.self.element;
  edges : own_table l.initial.self ≡ no_edges → own_table l.self ≡ table_of (pays_by l.structures l.number) (map edge_of (take l.e-index l.edges));
}
