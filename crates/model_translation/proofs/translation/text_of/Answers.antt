use Rattle.std.specs.Prelude.{[], ◌∷◌, ◌++◌}
use Rattle.std.proofs.Common.{rules, ◌≡◌, ◌∙◌, sym, ap, subst}
use Rattle.jani_tree.specs.Syntax.{File, file_of}
use Rattle.jani_tree.specs.Canonical.{file_node}
use Rattle.jani_tree.specs.Back.{IsWritable}
use Rattle.jani_tree.specs.Text.{SpellsNode, jani_text}
use Rattle.model_translation.specs.Translation.{IsText}
use Rattle.model_translation.proofs.Translations.{text_is}
use Rattle.model_translation.proofs.translation.text_of.Goals as goal

pub returns : goal.returns
returns c =
    let same : file_of c.file.result.now ≡ file_of c.args.model.now = ap file_of c.file.ensures.same in
    let ready : IsWritable (file_of c.args.model.now) = c.writable_law.ensures (file_of c.args.model.now) c.file.ensures.checked in
    let value : SpellsNode c.in_ok-text.text (file_node (file_of c.args.model.now)) =
    subst (λ (f : File). SpellsNode c.in_ok-text.text (file_node f)) same (c.in_ok-text.ensures.value (subst IsWritable (sym same) ready)) in
    let whole : c.push.new.self ≡ c.in_ok-text.text ++ 10 ∷ [] = search rules in
    subst (λ t. IsText t (file_of c.args.model.now)) (sym whole)
    (text_is (file_of c.args.model.now) c.in_ok-text.text c.written_law.ensures.spells c.line_feed_law.ensures ready c.requires (c.in_ok-text.ensures.text ∙ ap jani_text same)
    value)
