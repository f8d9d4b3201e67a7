use Rattle.std.proofs.Common.{subst}
use Rattle.command_words.specs.Words.{walking_of}
use Rattle.jani_tree.specs.Syntax.{file_of}
use Rattle.model_files.specs.JaniFile.{IsReadJani}
use Rattle.model_process.proofs.Walks.{of_jani}
use Rattle.model_process.proofs.walking.in_jani.Goals as goal

pub returns : goal.returns
returns c = λ bytes read.
    of_jani (walking_of c.args.walking.now) bytes (file_of c.in-Ok.checked) (subst (IsReadJani bytes) c.in-Ok.is read) c.in_ok-ending.ending c.in_ok-ending.ensures
