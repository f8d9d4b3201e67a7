use Rattle.jani_translation_laws.proofs.Alike.{names_typed_alike, names_stay_constant, names_are_not_transient}
use Rattle.jani_translation_laws.proofs.types.names_law.Goals as goal

pub returns : goal.returns
returns c = record { types = names_typed_alike; constants = names_stay_constant; transients = names_are_not_transient }
