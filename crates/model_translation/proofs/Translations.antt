-- What is written for a PRISM file.
use Rattle.std.specs.Prelude.{◌≡◌, ℕ, List, [], ◌∷◌, ◌++◌}
use Rattle.std.proofs.Common.{sym, ap, ◌∙◌}
use Rattle.decimal_json.specs.Laws.{LineFeedBehind}
use Rattle.decimal_json.specs.Proper.{SpellsValue}
use Rattle.prism_tree.specs.Syntax as prism
use Rattle.jani_tree.specs.Syntax as jani
use Rattle.jani_tree.specs.Canonical.{file_node}
use Rattle.jani_tree.specs.Back.{IsWritable, TextSpells}
use Rattle.jani_tree.specs.Form.{FileShort}
use Rattle.jani_tree.specs.Text.{jani_text, SpellsNode}
use Rattle.prism_to_jani.specs.Promise.{IsJaniOf, PlacesAside}
use Rattle.model_files.proofs.ReadAgain.{shaped}
use Rattle.model_translation.specs.Translation.{IsText, IsJaniText}

-- the text of a tree whose names are short, with its line feed
pub text_is : (f : jani.File) (text : List ℕ) → TextSpells → LineFeedBehind → IsWritable f → FileShort f → text ≡ jani_text f → SpellsNode text (file_node f) → IsText (text ++ 10 ∷ []) f
text_is f text spells behind ready names t s =
    let there : SpellsValue (text ++ 10 ∷ []) s.0 = (s.2.0, s.2.1, behind text s.2.0 s.2.1 s.2.2, s.2.3) in
    record {
      text_is = ap (λ u. u ++ 10 ∷ []) t;
      spells = spells f s.0 (text ++ 10 ∷ []) ready.types s.1 there;
      shaped = shaped f s.0 (text ++ 10 ∷ []) ready names s.1 there;
    }

-- the text of a translation
pub written : (tree : prism.File) (model : jani.File) (text : List ℕ) → PlacesAside → IsJaniOf tree model → IsText text model → (f : jani.File) × IsJaniText tree text f
written tree model text aside h t = (
  model,
  record {
    text_is = t.text_is;
    spells = t.spells.tree;
    shaped = t.shaped;
    translated = h;
    only = λ other s. (t.spells.only other s, aside tree model other (sym (t.spells.only other s)) h);
  },
)
