use Rattle.jani_translation_laws.proofs.Circles.{no_circles}
use Rattle.jani_translation_laws.proofs.names.circles_law.Goals as goal

pub returns : goal.returns
returns c = no_circles
