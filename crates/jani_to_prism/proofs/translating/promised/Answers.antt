use Rattle.jani_tree.specs.Syntax.{file_of}
use Rattle.jani_to_prism.proofs.Kept.{is_translated}
use Rattle.jani_to_prism.proofs.translating.promised.Goals as goal

pub returns : goal.returns
returns c = λ none.
    let file = file_of c.args.checked.now in
    is_translated file c.file.ensures.checked none (c.form_law.ensures.printable file) (c.names_law.ensures.names file) (c.sound_types_law.ensures.sound file) c.same_meaning_law.ensures.same
