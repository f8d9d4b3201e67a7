use Rattle.std.specs.Prelude.{◌≡◌, map, drop}
use Rattle.std.specs.List.{list_any}
use Rattle.jani_tree.specs.Syntax.{location_of}
use Rattle.jani_loops.specs.Elements.{element_view}
use Rattle.edge_tables.specs.Counts.{is_crowded}
use Rattle.edge_tables.specs.Code.{usable_in}
use Rattle.edge_tables.proofs.values.is_crowded.Given as goal

abbrev pub invariant-loop-l : goal.invariant-loop-l
invariant-loop-l l = list_any (λ m. list_any (is_crowded (usable_in l.labels l.element) (element_view l.a)) m.values) (map location_of (drop l.l-index l.l-items)) ≡ list_any (λ m. list_any (is_crowded (usable_in l.labels l.element) (element_view l.a)) m.values) (map location_of l.l-items)
