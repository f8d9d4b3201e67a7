use Rattle.jani_translation.proofs.Differ.{values_differ, names_of_constants, actions_differ, actions_are_not_silent}
use Rattle.jani_translation.proofs.laws.new_names_law.Goals as goal

pub returns : goal.returns
returns c = record { values = values_differ; constants = names_of_constants; actions = actions_differ; silent = actions_are_not_silent }
