use Rattle.short_names.proofs.JaniLabels.{jani_labels}
use Rattle.short_names.proofs.laws.jani_labels_law.Goals as goal

pub returns : goal.returns
returns c = jani_labels
