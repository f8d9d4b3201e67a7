use Rattle.model_files.proofs.ReadAgain.{jani_read_again}
use Rattle.model_files.proofs.laws.jani_again_law.Goals as goal

pub returns : goal.returns
returns c = jani_read_again c.places_law.ensures
