use Rattle.prism_translation_laws.proofs.Initial.{outer_types_fit}
use Rattle.prism_translation_laws.proofs.types.outer_law.Goals as goal

pub returns : goal.returns
returns c = record { types = outer_types_fit }
