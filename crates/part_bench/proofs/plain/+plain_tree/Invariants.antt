use Rattle.part_bench.proofs.plain.+plain_tree.Given as goal

abbrev pub decreases-plain_tree : goal.decreases-plain_tree
decreases-plain_tree l = l.height
