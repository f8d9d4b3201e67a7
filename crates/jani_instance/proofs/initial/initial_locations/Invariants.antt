use Rattle.std.proofs.Common.{◌≡◌, map, take}
use Rattle.jani_instance.specs.Initial.{initial_table, table_in}
use Rattle.jani_instance.specs.Parts.{automaton_at}
use Rattle.jani_instance.proofs.initial.initial_locations.Given as goal

abbrev pub invariant-loop-part : goal.invariant-loop-part
invariant-loop-part l = map table_in l.all.items ≡ map initial_table (map automaton_at (take l.part-index l.parts))
