use Rattle.std.proofs.Common.{subst, map}
use Rattle.std.proofs.lemmas.Result.{IfOk-weaker}
use Rattle.jani_tree.specs.Syntax.{file_of}
use Rattle.prop_trees.specs.Syntax.{property_of}
use Rattle.model_translation.specs.Translation.{IsText}
use Rattle.model_translation.proofs.Paired.{is_written_with, short_asks, short_with}
use Rattle.model_translation.proofs.properties.written.Goals as goal

pub returns : goal.returns
returns c =
    let f = c.in_ok-full.ensures in
    IfOk-weaker c.text_of.result (λ text. IsText text (file_of c.in_ok-full.full)) _
    (λ text h. (
      f.0,
      f.1,
      is_written_with c.args.checked (map property_of c.args.props) text f.0 f.1 f.3 f.4 (subst (IsText text) f.2 h)
          (short_asks c.flat_names_law.ensures c.few_asks_law.ensures c.args.checked c.requires.names (map property_of c.args.props) c.requires.titles c.counted.ensures (file_of c.in_ok-full.full) f.0 f.1 f.2 f.3 c.held.ensures),
    ))
    c.text_of.ensures

-- the names of the translation are short, as those of the file are
pub text_of-requires : goal.text_of-requires
text_of-requires c =
    let f = c.in_ok-full.ensures in
    short_with c.translated_names_law.ensures c.args.checked c.file.ensures.checked c.requires.names (file_of c.in_ok-full.full) f.0 f.1 f.2 f.3 f.4.normal c.held.ensures
