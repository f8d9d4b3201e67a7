use Rattle.std.proofs.Common.{◌≡◌, map, take}
use Rattle.jani_meaning.specs.Scene.{location_column}
use Rattle.instance_start.specs.Columns.{trimmed_column, variable_of}
use Rattle.jani_instance.specs.Parts.{automaton_at}
use Rattle.jani_instance.proofs.columns.location_variables.Given as goal

abbrev pub invariant-loop-part : goal.invariant-loop-part
invariant-loop-part l = map variable_of l.all ≡ map trimmed_column (map location_column (map automaton_at (take l.part-index l.parts)))
