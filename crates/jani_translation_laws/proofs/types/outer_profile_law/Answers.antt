use Rattle.jani_translation_laws.proofs.Reading.{starts_fit, values_given_once, outer_reads_fit}
use Rattle.jani_translation_laws.proofs.types.outer_profile_law.Goals as goal

pub returns : goal.returns
returns c = record { starts = starts_fit; given = values_given_once; reads = outer_reads_fit }
