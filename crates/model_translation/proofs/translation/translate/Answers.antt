use Rattle.std.proofs.Common.{subst}
use Rattle.model_files.specs.PrismFile.{IsReadPrism}
use Rattle.model_translation.proofs.translation.translate.Goals as goal

-- the names of a file that is read are short
pub translated-requires : goal.translated-requires
translated-requires c =
    let read = subst (IsReadPrism c.requires.0) c.in-Ok.is c.requires.1 in
    c.prism_names_law.ensures c.requires.0 c.in-Ok.checked.file read.read.clean read.read.spells
