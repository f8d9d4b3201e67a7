use Rattle.prism_lex.proofs.GapLemmas.{gap_pieces}
use Rattle.prism_lex.proofs.laws.gap_law.Goals as goal

pub returns : goal.returns
returns c = gap_pieces
