use Rattle.jani_translation_laws.proofs.States.{commands_are_sound, condition_is_sound, marks_are_sound, items_are_sound}
use Rattle.jani_translation_laws.proofs.meaning.sound_at_states_law.Goals as goal

pub returns : goal.returns
returns c = record { condition = condition_is_sound; commands = commands_are_sound; marks = marks_are_sound; items = items_are_sound }
