use Rattle.std.proofs.Common.{◌≡◌, ◌+◌, ◌-◌, length}
use Rattle.jani_instance.specs.Initial.{entered}
use Rattle.jani_instance.proofs.initial.enter.Given as goal

abbrev pub invariant-loop-table : goal.invariant-loop-table
invariant-loop-table l = entered l.number l.table.items ≡ entered l.number l.initial.table.items

abbrev pub decreases-loop-table : goal.decreases-loop-table
decreases-loop-table l = l.number + 1 - length l.table.items
