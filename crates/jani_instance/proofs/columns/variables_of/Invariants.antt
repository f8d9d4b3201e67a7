use Rattle.std.proofs.Common.{◌≡◌, ◌++◌, map, take}
use Rattle.jani_meaning.specs.Scene.{column, location_column}
use Rattle.instance_start.specs.Columns.{trimmed_column, variable_of}
use Rattle.jani_instance.specs.Parts.{automaton_at, owned_at}
use Rattle.jani_instance.specs.Views.{seen_in}
use Rattle.jani_instance.proofs.columns.variables_of.Given as goal

abbrev pub invariant-loop-o : goal.invariant-loop-o
invariant-loop-o l = map variable_of l.all ≡ map trimmed_column (map location_column (map automaton_at l.parts) ++ map (λ o. column (seen_in l.run) o.var) (map owned_at (take l.o-index l.lasting)))
