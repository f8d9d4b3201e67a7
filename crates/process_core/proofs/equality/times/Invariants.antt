use Rattle.std.proofs.Common.{◌≡◌, count_by, take}
use Rattle.process_core.specs.Equal.{equal_choices}
use Rattle.process_core.proofs.equality.times.Given as goal

abbrev pub invariant-loop-choice : goal.invariant-loop-choice
invariant-loop-choice l = l.count ≡ count_by (equal_choices l.c) (take l.choice-index l.choice-items)
