use Rattle.jani_translation_laws.proofs.Unknown.{none_unknown}
use Rattle.jani_translation_laws.proofs.names.unknown_law.Goals as goal

pub returns : goal.returns
returns c = none_unknown
