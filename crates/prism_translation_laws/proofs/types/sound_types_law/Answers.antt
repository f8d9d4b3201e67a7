use Rattle.prism_translation_laws.proofs.Whole.{no_type_fault}
use Rattle.prism_translation_laws.proofs.types.sound_types_law.Goals as goal

pub returns : goal.returns
returns c = record { sound = no_type_fault }
