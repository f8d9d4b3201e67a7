use Rattle.std.specs.Prelude.{◌≡◌, ◌<◌, ℕ, map, drop, vec_len}
use Rattle.jani_tree.specs.Syntax.{write_of}
use Rattle.edge_tables.specs.Counts.{noting_writes}
use Rattle.edge_tables.specs.Code.{is_to_place, writing_at}
use Rattle.edge_tables.proofs.shared.Writings.note_writes.Given as goal

abbrev pub invariant-loop-w : goal.invariant-loop-w
invariant-loop-w l = record {
  count : vec_len l.self.table ≡ vec_len l.initial.self.table;
  noted : (i : ℕ) → i < vec_len l.initial.self.table → noting_writes (is_to_place l.lasting i l.element) l.element l.binding (writing_at l.self i) (map write_of (drop l.w-index l.writes)) ≡ noting_writes (is_to_place l.lasting i l.element) l.element l.binding (writing_at l.initial.self i) (map write_of l.writes);
}
