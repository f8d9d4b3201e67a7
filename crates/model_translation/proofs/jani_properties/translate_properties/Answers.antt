use Rattle.std.proofs.Common.{subst}
use Rattle.jani_tree.specs.Syntax.{file_of}
use Rattle.model_files.specs.JaniFile.{IsReadJani}
use Rattle.model_translation.proofs.Held.{translates_held, refuses_file}
use Rattle.model_translation.proofs.jani_properties.translate_properties.Goals as goal

pub returns-in-Ok : goal.returns-in-Ok
returns-in-Ok c bytes read =
    translates_held bytes (file_of c.in-Ok.model) (subst (IsReadJani bytes) c.in-Ok.is read) c.held.result c.held.ensures.ok c.held.ensures.refused

pub returns-in-Err : goal.returns-in-Err
returns-in-Err c bytes read = refuses_file bytes c.in-Err.refused (subst (IsReadJani bytes) c.in-Err.is read)
