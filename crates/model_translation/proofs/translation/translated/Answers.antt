use Rattle.std.specs.Prelude.{List, ℕ}
use Rattle.op_trees.proofs.Made.{if_ok}
use Rattle.jani_tree.specs.Syntax.{File, file_of}
use Rattle.model_translation.specs.Translation.{IsText, IsJaniText}
use Rattle.model_translation.proofs.Translations.{written}
use Rattle.model_translation.proofs.translation.translated.Goals as goal

pub returns : goal.returns
returns c =
    if_ok (λ (text : List ℕ). IsText text (file_of c.in_ok-model.model)) (λ text. (model : File) × IsJaniText c.args.checked.file text model)
    (λ text h. written c.args.checked.file (file_of c.in_ok-model.model) text c.translated_law.ensures c.in_ok-model.ensures h) c.text_of.result c.text_of.ensures

-- the names of the translation are short, as those of the file are
pub text_of-requires : goal.text_of-requires
text_of-requires c =
    c.translated_names_law.ensures c.args.checked c.file.ensures.checked c.requires (file_of c.in_ok-model.model) c.in_ok-model.ensures.shape c.held.ensures
