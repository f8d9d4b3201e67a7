use Rattle.jani_translation_laws.proofs.Outer.{kinds_fit, outer_fit}
use Rattle.jani_translation_laws.proofs.types.outer_types_law.Goals as goal

pub returns : goal.returns
returns c = record { kinds = kinds_fit; demands = outer_fit }
