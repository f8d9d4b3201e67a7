use Rattle.std.specs.Prelude.{◌≡◌, map, drop}
use Rattle.jani_loops.specs.Elements.{element_view}
use Rattle.edge_tables.specs.Counts.{crowded_from}
use Rattle.edge_tables.specs.Code.{usable_in}
use Rattle.edge_tables.proofs.values.has_many_values.Given as goal

abbrev pub invariant-loop-k : goal.invariant-loop-k
invariant-loop-k l = crowded_from (usable_in l.labels) l.k (map element_view (drop l.k l.automata)) ≡ crowded_from (usable_in l.labels) 0 (map element_view l.automata)
