use Rattle.std.specs.Prelude.{◌≡◌, map, drop}
use Rattle.std.specs.List.{list_any}
use Rattle.jani_tree.specs.Syntax.{Automaton, write_of}
use Rattle.edge_tables.specs.Counts.{is_crowded}
use Rattle.edge_tables.specs.Code.{AreCounts, usable_in}
use Rattle.edge_tables.proofs.values.has_crowded.Given as goal

abbrev pub invariant-loop-w : goal.invariant-loop-w
invariant-loop-w l = (a : Automaton) → AreCounts l.counts a → list_any (is_crowded (usable_in l.labels l.element) a) (map write_of (drop l.w-index l.values)) ≡ list_any (is_crowded (usable_in l.labels l.element) a) (map write_of l.values)
