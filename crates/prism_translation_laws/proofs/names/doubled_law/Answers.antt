use Rattle.prism_translation_laws.proofs.NoFault.{doubled}
use Rattle.prism_translation_laws.proofs.names.doubled_law.Goals as goal

pub returns : goal.returns
returns c = doubled
