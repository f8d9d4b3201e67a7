use Rattle.std.specs.Prelude.{◌≡◌, ◌<◌, ℕ, map, drop, vec_len}
use Rattle.edge_tables.specs.Counts.{written_from}
use Rattle.edge_tables.specs.Code.{table_view, is_to_place, writing_at}
use Rattle.edge_tables.proofs.shared.Writings.note_elements.Given as goal

abbrev pub invariant-loop-k : goal.invariant-loop-k
invariant-loop-k l = record {
  count : vec_len l.self.table ≡ vec_len l.initial.self.table;
  noted : (i : ℕ) → i < vec_len l.initial.self.table → written_from (is_to_place l.lasting i) l.k (map table_view (drop l.k l.elements)) (writing_at l.self i) ≡ written_from (is_to_place l.lasting i) 0 (map table_view l.elements) (writing_at l.initial.self i);
}
