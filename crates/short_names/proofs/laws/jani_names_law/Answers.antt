use Rattle.short_names.proofs.JaniFiles.{jani_names}
use Rattle.short_names.proofs.laws.jani_names_law.Goals as goal

pub returns : goal.returns
returns c = jani_names
