use Rattle.std.proofs.Common.{◌≡◌, ◌++◌, drop}
use Rattle.std.specs.Option.{option_map}
use Rattle.instance_start.proofs.Places.{firsts}
use Rattle.instance_start.proofs.ranges.first_values.Given as goal

abbrev pub invariant-loop-column : goal.invariant-loop-column
invariant-loop-column l = option_map (λ ws. l.values ++ ws) (firsts (drop l.column-index l.columns)) ≡ firsts l.columns
