use Rattle.prism_translation_laws.proofs.Commands.{commands_may_write, module_types_fit}
use Rattle.prism_translation_laws.proofs.Once.{written_once}
use Rattle.prism_translation_laws.proofs.types.modules_law.Goals as goal

pub returns : goal.returns
returns c = record { writes = commands_may_write; types = module_types_fit; once = written_once }
