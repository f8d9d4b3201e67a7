use Rattle.std.proofs.Common.{◌≡◌, take}
use Rattle.process_core.specs.Merging.{key_of}
use Rattle.process_core.proofs.merging.key_of.Given as goal

abbrev pub invariant-loop-value : goal.invariant-loop-value
invariant-loop-value l = l.key.items ≡ key_of (take l.value-index l.value-items)
