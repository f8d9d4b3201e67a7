use Rattle.prism_translation_laws.proofs.NoFault.{unknown}
use Rattle.prism_translation_laws.proofs.names.unknown_law.Goals as goal

pub returns : goal.returns
returns c = unknown
