use Rattle.std.proofs.Common.{[], ◌∷◌, sym, subst}
use Rattle.std.specs.Prelude.{Err}
use Rattle.command_words.specs.Words.{carrying_of}
use Rattle.model_files.specs.PrismFile.{IsReadPrism}
use Rattle.model_carrying.specs.Ends.{CarriesOn}
use Rattle.model_carrying.proofs.Files.{of_prism, refused_prism}
use Rattle.model_carrying.proofs.from_prism.from_prism.Goals as goal

pub returns-in-Err : goal.returns-in-Err
returns-in-Err c = λ bytes read.
    subst (λ x. CarriesOn (carrying_of c.args.carrying.now) (bytes ∷ c.args.path.now ∷ []) (Err x)) (sym c.at_file.ensures)
    (refused_prism (carrying_of c.args.carrying.now) bytes c.args.path.now c.requires.lang c.in-Err.refused (subst (IsReadPrism bytes) c.in-Err.is read))

pub returns : goal.returns
returns c = λ bytes read.
    of_prism (carrying_of c.args.carrying.now) bytes c.args.path.now c.requires.lang c.in-Ok.checked.file (subst (IsReadPrism bytes) c.in-Ok.is read) c.on_checked.result c.on_checked.ensures

pub on_checked-requires-clause-names : goal.on_checked-requires-clause-names
on_checked-requires-clause-names c =
    let read = subst (IsReadPrism c.requires.read.0) c.in-Ok.is c.requires.read.1 in
    c.prism_names_law.ensures c.requires.read.0 c.in-Ok.checked.file read.read.clean read.read.spells
