use Rattle.model_files.proofs.ReadAgain.{prism_read_again}
use Rattle.model_files.proofs.laws.prism_again_law.Goals as goal

pub returns : goal.returns
returns c = prism_read_again c.one_tree.ensures c.places_law.ensures.clean
