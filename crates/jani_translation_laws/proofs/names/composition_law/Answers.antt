use Rattle.jani_translation_laws.proofs.Composition.{no_composition_faults, no_name_faults}
use Rattle.jani_translation_laws.proofs.names.composition_law.Goals as goal

pub returns : goal.returns
returns c = record { composition = no_composition_faults; names = no_name_faults }
