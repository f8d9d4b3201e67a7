use Rattle.jani_translation_laws.proofs.EdgeProfile.{automata_reads_fit, branches_fit}
use Rattle.jani_translation_laws.proofs.OneWriter.{one_reward_writer}
use Rattle.jani_translation_laws.proofs.types.automata_profile_law.Goals as goal

pub returns : goal.returns
returns c = record { reads = automata_reads_fit; branches = branches_fit; writer = one_reward_writer }
