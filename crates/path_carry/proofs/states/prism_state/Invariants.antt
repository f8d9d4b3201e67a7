use Rattle.std.proofs.Common.{◌≡◌, map, take, get_or}
use Rattle.choice_laws.specs.Columns.{at_start}
use Rattle.carry_maps.specs.Maps.{column_numbers}
use Rattle.path_carry.proofs.states.prism_state.Given as goal

abbrev pub invariant-loop-column : goal.invariant-loop-column
invariant-loop-column l = l.values.items ≡ map (λ i. get_or l.from.values i at_start) (take l.column-index (column_numbers l.map))
