use Rattle.prism_translation_laws.proofs.NoFault.{circular}
use Rattle.prism_translation_laws.proofs.names.circles_law.Goals as goal

pub returns : goal.returns
returns c = circular
