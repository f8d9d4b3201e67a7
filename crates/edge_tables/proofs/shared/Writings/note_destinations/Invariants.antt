use Rattle.std.specs.Prelude.{◌≡◌, ◌<◌, ℕ, map, drop, vec_len}
use Rattle.jani_tree.specs.Syntax.{destination_of}
use Rattle.edge_tables.specs.Counts.{noting_destinations}
use Rattle.edge_tables.specs.Code.{is_to_place, writing_at}
use Rattle.edge_tables.proofs.shared.Writings.note_destinations.Given as goal

abbrev pub invariant-loop-d : goal.invariant-loop-d
invariant-loop-d l = record {
  count : vec_len l.self.table ≡ vec_len l.initial.self.table;
  noted : (i : ℕ) → i < vec_len l.initial.self.table → noting_destinations (is_to_place l.lasting i l.element) l.element l.binding (writing_at l.self i) (map destination_of (drop l.d-index l.destinations)) ≡ noting_destinations (is_to_place l.lasting i l.element) l.element l.binding (writing_at l.initial.self i) (map destination_of l.destinations);
}
