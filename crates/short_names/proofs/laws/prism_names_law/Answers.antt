use Rattle.short_names.proofs.PrismFiles.{prism_names}
use Rattle.short_names.proofs.laws.prism_names_law.Goals as goal

pub returns : goal.returns
returns c = prism_names
