use Rattle.std.proofs.Common.{take}
use Rattle.row_check.specs.Keys.{AreCounted}
use Rattle.row_check.proofs.counting.ChoiceCounts.of.Given as goal

abbrev pub invariant-loop-choice : goal.invariant-loop-choice
invariant-loop-choice l = AreCounted l.counts.counts (take l.choice-index l.list)
