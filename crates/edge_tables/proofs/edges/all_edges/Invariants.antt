use Rattle.std.proofs.Common.{◌≡◌, [], ◌∷◌, ◌++◌, map, drop, take}
use Rattle.jani_loops.specs.Elements.{element_view}
use Rattle.process_core.specs.Instance.{numbered}
use Rattle.edge_tables.specs.Tables.{table_of}
use Rattle.edge_tables.specs.Code.{table_view, pays_by, shape_kept, shape_of}
use Rattle.edge_tables.proofs.edges.all_edges.Given as goal

abbrev pub invariant-loop-k : goal.invariant-loop-k
invariant-loop-k l = record {
  edges :
      map table_view l.all.items ++ numbered (λ k a. table_of (pays_by l.structures k) a.edges ∷ []) l.k (map element_view (drop l.k l.automata))
      ≡ numbered (λ k a. table_of (pays_by l.structures k) a.edges ∷ []) 0 (map element_view l.automata);
  shapes : map shape_kept l.all.items ≡ map shape_of (take l.k l.automata);
}
