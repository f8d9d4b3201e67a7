use Rattle.short_names.proofs.Properties.{property_names}
use Rattle.short_names.proofs.laws.property_names_law.Goals as goal

pub returns : goal.returns
returns c = property_names
