use Rattle.jani_translation_laws.proofs.Shared.{no_clashing_writes}
use Rattle.jani_translation_laws.proofs.Whole.{types_but_shared, no_type_fault, no_profile_fault}
use Rattle.jani_translation_laws.proofs.types.sound_translation_law.Goals as goal

pub returns : goal.returns
returns c = record { types = types_but_shared; shared = no_clashing_writes; sound = no_type_fault; profile = no_profile_fault }
