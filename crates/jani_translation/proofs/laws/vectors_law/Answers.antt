use Rattle.jani_translation.proofs.Vectors.{vectors_watched}
use Rattle.jani_translation.proofs.laws.vectors_law.Goals as goal

pub returns : goal.returns
returns c = record { watched = vectors_watched }
