use Rattle.std.proofs.Common.{◌≡◌, ◌≤◌, length, drop}
use Rattle.choice_laws.specs.Columns.{state_by}
use Rattle.carry_maps.specs.Maps.{column_numbers}
use Rattle.path_carry.proofs.states.jani_state.Given as goal

abbrev pub invariant-loop-left : goal.invariant-loop-left
invariant-loop-left l = record {
  within : l.left ≤ length l.map.columns;
  values : l.values.items ≡ state_by (drop l.left (column_numbers l.map)) l.columns (drop l.left l.from.values);
}

abbrev pub decreases-loop-left : goal.decreases-loop-left
decreases-loop-left l = l.left
