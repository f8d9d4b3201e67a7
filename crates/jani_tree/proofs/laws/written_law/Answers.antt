use Rattle.jani_tree.proofs.Back.{text_spells}
use Rattle.jani_tree.proofs.Text.{text_of_node}
use Rattle.jani_tree.proofs.laws.written_law.Goals as goal

pub returns-clause-text : goal.returns-clause-text
returns-clause-text c = text_of_node

pub returns-clause-spells : goal.returns-clause-spells
returns-clause-spells c = text_spells
