use Rattle.short_names.proofs.FlatNames.{flat_names}
use Rattle.short_names.proofs.laws.flat_names_law.Goals as goal

pub returns : goal.returns
returns c = flat_names
