-- What is written for a JANI file: comment lines, and the text of a PRISM file that means the same.
-- (This project's own rule.)
use Rattle.std.specs.Prelude.{◌≡◌, ℕ, List, [], ◌++◌}
use Rattle.bridge_io.specs.declared.reason.Fault.{Fault}
use Rattle.prism_tree.specs.Syntax as prism
use Rattle.prism_tree.specs.Faults.{Spells}
use Rattle.prism_print.specs.Text.{file_text}
use Rattle.prism_print.specs.Same.{bare_file, SpellsFile}
use Rattle.prism_print.specs.Comments.{lines_text}
use Rattle.name_rules.specs.Least.{IsLeast}
use Rattle.jani_tree.specs.Syntax as jani
use Rattle.prism_translation.specs.Lines.{lines}
use Rattle.prism_translation.specs.Refused.{refused}
use Rattle.jani_to_prism.specs.Promise.{IsPrismOf}
use Rattle.model_files.specs.JaniFile.{IsFaultlessJani, IsJaniFault}

-- The text is the comment lines of the JANI tree and the canonical text of the PRISM tree. It spells the PRISM tree that the
-- JANI tree is translated to: so it is tokens alone, which are a file of the grammar; the tree has no fault of names or types, it has
-- the shape of a translation, and it means the same process. What may be past a limit is the size. Each tree that the text spells is
-- the same but for its places, and has all of this too.
pub record IsPrismText (tree : jani.File) (text : List ℕ) (model : prism.File) : Type 0 where
  pub text_is : text ≡ lines_text (lines tree) ++ file_text model
  pub spells : SpellsFile text model
  pub translated : IsPrismOf tree model
  pub only : (other : prism.File) → Spells text other → (bare_file other ≡ bare_file model) × IsPrismOf tree other

-- The bytes have no fault and spell one tree, which can be translated.
pub record IsTranslatable (bytes : List ℕ) (tree : jani.File) : Type 0 where
  pub faultless : IsFaultlessJani bytes tree
  pub accepted : refused tree ≡ []

abbrev pub HasTranslation : List ℕ → Type 0
HasTranslation bytes = (tree : jani.File) × IsTranslatable bytes tree

-- This is written for them.
pub record IsPrismTranslation (bytes text : List ℕ) (tree : jani.File) (model : prism.File) : Type 0 where
  pub translatable : IsTranslatable bytes tree
  pub written : IsPrismText tree text model

abbrev pub TranslatesToPrism : List ℕ → List ℕ → Type 0
TranslatesToPrism bytes text = (tree : jani.File) × (model : prism.File) × IsPrismTranslation bytes text tree model

-- This is the least fault of the first phase that has any: of the JANI file; or else of its translation, which would write a
-- variable where PRISM forbids it, or be too large.
pub data IsPrismRefused (bytes : List ℕ) (f : Fault) : Type 0 where
  of_file : IsJaniFault bytes f → IsPrismRefused bytes f
  of_result : (tree : jani.File) → IsFaultlessJani bytes tree → IsLeast (refused tree) f → IsPrismRefused bytes f
