use Rattle.std.proofs.Common.{◌≡◌, drop}
use Rattle.jani_table.specs.Node.{nodes, fields}
use Rattle.name_rules.specs.Least.{soonest}
use Rattle.jani_table.specs.Faults.{items_faults, members_faults}
use Rattle.jani_table.proofs.shape.+judge.Given as goal

abbrev pub invariant-loop-x : goal.invariant-loop-x
invariant-loop-x l = soonest l.best (items_faults l.item (nodes (drop l.x-index l.slice))) ≡ soonest l.fn.first (items_faults l.item (nodes l.slice))

abbrev pub invariant-loop-m : goal.invariant-loop-m
invariant-loop-m l = soonest l.best (members_faults l.kind (fields (drop l.m-index l.slice))) ≡ soonest l.fn.first (members_faults l.kind (fields l.slice))
