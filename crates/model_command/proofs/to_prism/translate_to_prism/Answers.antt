use Rattle.std.proofs.Common.{subst}
use Rattle.jani_tree.specs.Syntax.{file_of}
use Rattle.model_files.specs.JaniFile.{IsReadJani}
use Rattle.model_command.proofs.ToPrism.{judged, refuses}
use Rattle.model_command.proofs.to_prism.translate_to_prism.Goals as goal

pub returns-in-Ok : goal.returns-in-Ok
returns-in-Ok c = λ bytes read.
    judged bytes (file_of c.in-Ok.checked) (subst (IsReadJani bytes) c.in-Ok.is read) c.written.result c.written.ensures.ok c.written.ensures.refused

pub returns-in-Err : goal.returns-in-Err
returns-in-Err c = λ bytes read. refuses bytes c.in-Err.refused (subst (IsReadJani bytes) c.in-Err.is read)
