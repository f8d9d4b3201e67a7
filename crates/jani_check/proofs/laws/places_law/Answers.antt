use Rattle.jani_check.proofs.Profiled.{places_aside}
use Rattle.jani_check.proofs.laws.places_law.Goals as goal

pub returns : goal.returns
returns c = places_aside
