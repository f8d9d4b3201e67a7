use Rattle.jani_translation_laws.proofs.Automata.{automata_fit}
use Rattle.jani_translation_laws.proofs.Once.{automata_write_once}
use Rattle.jani_translation_laws.proofs.types.automata_types_law.Goals as goal

pub returns : goal.returns
returns c = record { demands = automata_fit; once = automata_write_once }
