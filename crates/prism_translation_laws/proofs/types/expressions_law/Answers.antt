use Rattle.prism_translation_laws.proofs.TypedImages.{image_typed_alike}
use Rattle.prism_translation_laws.proofs.types.expressions_law.Goals as goal

pub returns : goal.returns
returns c = record { types = image_typed_alike }
