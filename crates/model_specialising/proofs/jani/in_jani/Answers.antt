use Rattle.std.proofs.Common.{subst}
use Rattle.jani_tree.specs.Syntax.{file_of}
use Rattle.model_files.specs.JaniFile.{IsReadJani}
use Rattle.model_specialising.proofs.jani.in_jani.Goals as goal

pub on_jani-requires-clause-short : goal.on_jani-requires-clause-short
on_jani-requires-clause-short c =
    let read = c.requires.read in
    let ok = subst (IsReadJani read.0) c.in-Ok.is read.1 in
    c.jani_names_law.ensures read.0 ok.value ok.read.whole.tokens (file_of c.in-Ok.checked) ok.read.whole.spells ok.read.shaped ok.read.spells

pub returns : goal.returns
returns c = λ bytes read. (file_of c.in-Ok.checked, subst (IsReadJani bytes) c.in-Ok.is read, c.in_ok-ending.ensures)
