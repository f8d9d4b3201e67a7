use Rattle.std.proofs.Common.{◌≡◌, take}
use Rattle.std.specs.List.{flat_map}
use Rattle.walk_texts.specs.Lines.{fault_line}
use Rattle.walk_texts.proofs.faults.fault_lines.Given as goal

abbrev pub invariant-loop-fault : goal.invariant-loop-fault
invariant-loop-fault l = l.out.items ≡ flat_map fault_line (take l.fault-index l.faults)
