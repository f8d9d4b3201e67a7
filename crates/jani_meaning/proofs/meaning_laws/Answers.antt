use Rattle.jani_meaning.proofs.Columns.{states_have_columns, locations_have_no_fault, no_condition_is_true}
use Rattle.jani_meaning.proofs.Proper.{choices_are_proper, marks_of_transients}
use Rattle.jani_meaning.proofs.meaning_laws.Goals as goal

pub returns : goal.returns
returns c = record { columns = states_have_columns; marks = marks_of_transients; proper = choices_are_proper; locations = locations_have_no_fault; conditions = no_condition_is_true }
