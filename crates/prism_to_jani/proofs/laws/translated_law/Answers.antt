use Rattle.prism_to_jani.proofs.Kept.{aside}
use Rattle.prism_to_jani.proofs.laws.translated_law.Goals as goal

pub returns : goal.returns
returns c = aside
