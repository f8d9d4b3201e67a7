-- What is written for a PRISM file: the text of a JANI file that means the same (this project's own rule).
use Rattle.std.specs.Prelude.{◌≡◌, ℕ, List, [], ◌∷◌, ◌++◌, Result, Ok, Err}
use Rattle.bridge_io.specs.declared.reason.Refused.{Refused}
use Rattle.bridge_io.specs.declared.reason.Refused.TheVariants as R
use Rattle.prism_tree.specs.Syntax as prism
use Rattle.jani_tree.specs.Syntax as jani
use Rattle.jani_tree.specs.Places.{bare_file}
use Rattle.jani_tree.specs.Text.{jani_text}
use Rattle.jani_tree.specs.Back.{SpellsFile, SpellsAside, SpellsOnly}
use Rattle.prism_to_jani.specs.Promise.{IsJaniOf}
use Rattle.model_files.specs.PrismFile.{IsFaultless, IsPrismFault}
use Rattle.model_files.specs.ReadAgain.{IsShaped}

-- The text is the canonical one of the tree and a line feed; it spells the tree, places aside, and no other, by a value without fault of shape.
pub record IsText (text : List ℕ) (model : jani.File) : Type 0 where
  pub text_is : text ≡ jani_text model ++ 10 ∷ []
  pub spells : SpellsOnly text model
  pub shaped : IsShaped text

-- The text spells a JANI tree that the PRISM tree is translated to, by a JSON value without fault of shape: the tree has no fault of
-- names, types or the profile, it has the shape of a translation, and it means the same process. What may be past a limit is the size. Each
-- tree that the text spells is the same but for its places, and has all of this too.
pub record IsJaniText (tree : prism.File) (text : List ℕ) (model : jani.File) : Type 0 where
  pub text_is : text ≡ jani_text model ++ 10 ∷ []
  pub spells : SpellsAside text model
  pub shaped : IsShaped text
  pub translated : IsJaniOf tree model
  pub only : (other : jani.File) → SpellsFile text other → (bare_file other ≡ bare_file model) × IsJaniOf tree other

-- The bytes have no fault and spell one tree, and this is written for it.
pub record IsJaniTranslation (bytes text : List ℕ) (tree : prism.File) (model : jani.File) : Type 0 where
  pub faultless : IsFaultless bytes tree
  pub written : IsJaniText tree text model

abbrev pub Translates : List ℕ → List ℕ → Type 0
Translates bytes text = (tree : prism.File) × (model : jani.File) × IsJaniTranslation bytes text tree model

-- It is written for the bytes, or they are refused at their least fault; want of memory may come at any time.
abbrev pub TranslatesBytes : List ℕ → Result (List ℕ) Refused → Type 0
TranslatesBytes bytes (Ok text) = Translates bytes text
TranslatesBytes bytes (Err (R.Memory e)) = Unit {0}
TranslatesBytes bytes (Err (R.At f)) = IsPrismFault bytes f
