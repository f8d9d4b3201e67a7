use Rattle.std.proofs.Common.{◌≡◌, ◌++◌, drop, map}
use Rattle.instance_start.specs.Columns.{column_of}
use Rattle.prism_instance.proofs.start.texts.Given as goal

abbrev pub invariant-loop-column : goal.invariant-loop-column
invariant-loop-column l = l.all ++ map (λ c. c.name) (map column_of (drop l.column-index l.columns)) ≡ map (λ c. c.name) (map column_of l.columns)
