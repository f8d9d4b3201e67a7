use Rattle.std.proofs.Common.{◌≡◌, drop}
use Rattle.jani_table.specs.Node.{fields}
use Rattle.jani_props.specs.Shape.{prop_member}
use Rattle.jani_props.proofs.shape.prop_member.Given as goal

abbrev pub invariant-loop-m : goal.invariant-loop-m
invariant-loop-m l = prop_member l.key (fields (drop l.m-index l.members)) ≡ prop_member l.key (fields l.members)
