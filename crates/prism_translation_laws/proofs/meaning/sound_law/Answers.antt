use Rattle.prism_translation_laws.proofs.Marks.{marks_are_sound}
use Rattle.prism_translation_laws.proofs.SameMeaning.{file_is_sound}
use Rattle.prism_translation_laws.proofs.meaning.sound_law.Goals as goal

pub returns : goal.returns
returns c = record { file = file_is_sound; marks = marks_are_sound }
