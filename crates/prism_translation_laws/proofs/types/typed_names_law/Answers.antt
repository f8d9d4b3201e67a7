use Rattle.prism_translation_laws.proofs.Expressions.{names_typed_alike, constants_stay_constant}
use Rattle.prism_translation_laws.proofs.types.typed_names_law.Goals as goal

pub returns : goal.returns
returns c = record { types = names_typed_alike; constants = constants_stay_constant }
