use Rattle.jani_translation_laws.proofs.Doubled.{none_doubled}
use Rattle.jani_translation_laws.proofs.names.doubled_law.Goals as goal

pub returns : goal.returns
returns c = none_doubled
