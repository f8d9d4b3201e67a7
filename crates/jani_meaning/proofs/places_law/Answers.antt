use Rattle.jani_meaning.proofs.Bare.{places_mean_nothing}
use Rattle.jani_meaning.proofs.places_law.Goals as goal

pub returns : goal.returns
returns c = places_mean_nothing
