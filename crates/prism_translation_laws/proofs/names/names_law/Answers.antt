use Rattle.prism_translation_laws.proofs.NoFault.{some_module, no_name_fault}
use Rattle.prism_translation_laws.proofs.names.names_law.Goals as goal

pub returns : goal.returns
returns c = record { some = some_module; names = no_name_fault }
