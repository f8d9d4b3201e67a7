use Rattle.prop_trees.proofs.Printed.{text_spells}
use Rattle.prop_trees.proofs.laws.text_law.Goals as goal

pub returns : goal.returns
returns c = text_spells
