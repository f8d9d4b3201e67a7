use Rattle.std.proofs.Common.{◌≡◌, drop}
use Rattle.jani_table.specs.Node.{nodes, fields}
use Rattle.name_rules.specs.Least.{soonest}
use Rattle.name_rules.specs.Names.{has_name}
use Rattle.jani_props.specs.Shape.{items_faults, members_faults}
use Rattle.jani_props.proofs.shape.+judge.Given as goal

abbrev pub invariant-loop-x : goal.invariant-loop-x
invariant-loop-x l =
    soonest l.best (items_faults (has_name l.fn.given) l.item (nodes (drop l.x-index l.x-items))) ≡ soonest l.fn.first (items_faults (has_name l.fn.given) l.item (nodes l.x-items))

abbrev pub invariant-loop-m : goal.invariant-loop-m
invariant-loop-m l =
    soonest l.best (members_faults (has_name l.fn.given) l.kind (fields (drop l.m-index l.slice))) ≡ soonest l.fn.first (members_faults (has_name l.fn.given) l.kind (fields l.slice))
