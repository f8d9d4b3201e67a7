use Rattle.prism_print.proofs.Back.{commented}
use Rattle.prism_print.proofs.laws.commented_law.Goals as goal

pub returns : goal.returns
returns c = commented
