use Rattle.std.proofs.Common.{◌≡◌, map, drop}
use Rattle.jani_instance.specs.Initial.{all_begin, table_in}
use Rattle.jani_instance.specs.Views.{location_at}
use Rattle.jani_instance.proofs.initial.all_begin.Given as goal

abbrev pub invariant-loop-i : goal.invariant-loop-i
invariant-loop-i l = all_begin (location_at l.values) 0 (map table_in l.locations) ≡ all_begin (location_at l.values) l.i (map table_in (drop l.i l.locations))
