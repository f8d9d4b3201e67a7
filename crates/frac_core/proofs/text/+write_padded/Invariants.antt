use Rattle.frac_core.proofs.text.+write_padded.Given as goal

abbrev pub decreases-write_padded : goal.decreases-write_padded
decreases-write_padded l = l.width
