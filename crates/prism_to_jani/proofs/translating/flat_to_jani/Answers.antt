use Rattle.std.proofs.Common.{◌≡◌, ◌∙◌, sym, ap}
use Rattle.prism_names.specs.Flat.{flat}
use Rattle.jani_tree.specs.Places.{bare_file}
use Rattle.jani_tree.specs.Syntax.{file_of}
use Rattle.jani_check.proofs.Profiled.{places_aside}
use Rattle.jani_automata.specs.Translated.{translated}
use Rattle.jani_translation_laws.proofs.Bare.{translated_alike}
use Rattle.prism_to_jani.proofs.Kept.{aside}
use Rattle.prism_to_jani.proofs.translating.flat_to_jani.Goals as goal

pub without_fault-requires : goal.without_fault-requires
without_fault-requires c =
    let image = c.in_ok-file.ensures ∙ translated_alike c.args.written.now (flat c.args.checked.now.file) c.requires in
    places_aside (translated (flat c.args.checked.now.file)) (file_of c.in_ok-file.file) (sym image) c.promised.ensures.clean

pub returns : goal.returns
returns c =
    let image = c.in_ok-file.ensures ∙ translated_alike c.args.written.now (flat c.args.checked.now.file) c.requires in
    aside c.args.checked.now.file (translated (flat c.args.checked.now.file)) _ (sym (ap (λ f. bare_file (file_of f)) c.in_ok-judged.ensures ∙ image)) c.promised.ensures
