use Rattle.jani_translation_laws.proofs.Constants.{flat_is_sound}
use Rattle.jani_translation_laws.proofs.meaning.sound_under_law.Goals as goal

pub returns : goal.returns
returns c = record { sound = flat_is_sound }
