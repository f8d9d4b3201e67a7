use Rattle.std.specs.Prelude.{◌≡◌, ◌<◌, ℕ, map, drop, vec_len}
use Rattle.edge_tables.specs.Counts.{noting_edges}
use Rattle.edge_tables.specs.Code.{ranked_view, is_to_place, writing_at}
use Rattle.edge_tables.proofs.shared.Writings.note_edges.Given as goal

abbrev pub invariant-loop-e : goal.invariant-loop-e
invariant-loop-e l = record {
  count : vec_len l.self.table ≡ vec_len l.initial.self.table;
  noted : (i : ℕ) → i < vec_len l.initial.self.table → noting_edges (is_to_place l.lasting i l.element) l.element (writing_at l.self i) (map ranked_view (drop l.e-index l.edges)) ≡ noting_edges (is_to_place l.lasting i l.element) l.element (writing_at l.initial.self i) (map ranked_view l.edges);
}
