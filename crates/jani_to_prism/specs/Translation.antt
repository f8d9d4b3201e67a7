-- What `translate` tells: the file is the translation, apart from offsets, and these are its comment lines (this project's own
-- rule).
use Rattle.std.specs.Prelude.{◌≡◌}
use Rattle.prism_tree.specs.Syntax as prism
use Rattle.prism_print.specs.Same.{bare_file}
use Rattle.jani_tree.specs.Syntax.{File}
use Rattle.name_table.specs.PrismAsks.{NewNames}
use Rattle.prism_translation.specs.Translated.{translated, translated_by}
use Rattle.prism_translation.specs.Lines.{lines, lines_by}
use Rattle.jani_to_prism.specs.declared.translation.CheckedPrismText.{CheckedPrismText}

pub record IsTranslation (t : CheckedPrismText) (file : File) : Type 0 where
  pub file_is : bare_file (prism.file_of t.file) ≡ bare_file (translated file)
  pub lines_are : t.lines ≡ lines file

-- the same under new names, offsets and all
pub record IsTextBy (t : CheckedPrismText) (names : NewNames) (file : File) : Type 0 where
  pub text_is : prism.file_of t.file ≡ translated_by names file
  pub told : t.lines ≡ lines_by names file
