use Rattle.std.proofs.Common.{◌≡◌, drop}
use Rattle.jani_table.specs.Node.{fields}
use Rattle.jani_table.specs.Faults.{member}
use Rattle.jani_table.proofs.shape.member.Given as goal

abbrev pub invariant-loop-m : goal.invariant-loop-m
invariant-loop-m l = member l.key (fields (drop l.m-index l.members)) ≡ member l.key (fields l.members)
