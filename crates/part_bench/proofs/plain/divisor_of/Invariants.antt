use Rattle.part_bench.proofs.plain.divisor_of.Given as goal

abbrev pub decreases-loop-y : goal.decreases-loop-y
decreases-loop-y l = l.y
