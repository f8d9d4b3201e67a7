use Rattle.std.proofs.Common.{[], ◌∷◌, sym, subst}
use Rattle.std.specs.Prelude.{Err}
use Rattle.command_words.specs.Words.{carrying_of}
use Rattle.jani_tree.specs.Syntax.{file_of}
use Rattle.model_files.specs.JaniFile.{IsReadJani}
use Rattle.model_carrying.specs.Ends.{CarriesOn}
use Rattle.model_carrying.proofs.Files.{of_jani, refused_jani}
use Rattle.model_carrying.proofs.from_jani.from_jani.Goals as goal

pub returns-in-Err : goal.returns-in-Err
returns-in-Err c = λ bytes read.
    subst (λ x. CarriesOn (carrying_of c.args.carrying.now) (bytes ∷ c.args.path.now ∷ []) (Err x)) (sym c.at_file.ensures)
    (refused_jani (carrying_of c.args.carrying.now) bytes c.args.path.now c.requires.lang c.in-Err.refused (subst (IsReadJani bytes) c.in-Err.is read))

pub returns : goal.returns
returns c = λ bytes read.
    of_jani (carrying_of c.args.carrying.now) bytes c.args.path.now c.requires.lang (file_of c.in-Ok.checked) (subst (IsReadJani bytes) c.in-Ok.is read) c.on_checked.result c.on_checked.ensures
