use Rattle.std.proofs.Common.{◌≡◌, List, ℕ, map, drop}
use Rattle.std.specs.Option.{option_or}
use Rattle.name_rules.specs.Names.{under}
use Rattle.instance_start.specs.Columns.{column_of}
use Rattle.prism_instance.specs.Places.{column_place}
use Rattle.prism_instance.proofs.places.add_columns.Given as goal

abbrev pub invariant-loop-i : goal.invariant-loop-i
invariant-loop-i l = (x : List ℕ) → option_or (under l.places x) (column_place l.i (map column_of (drop l.i l.columns)) x) ≡ option_or (under l.initial.places x) (column_place 0 (map column_of l.columns) x)
