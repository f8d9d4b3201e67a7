-- PRISM files without formulas and copies that have no fault.
use Rattle.std.specs.Prelude.{[]}
use Rattle.std.specs.Coded.{Coded, code_by}
use Rattle.prism_tree.specs.declared.syntax.PrismFile.{PrismFile}
use Rattle.prism_tree.specs.contracts.syntax.PrismFile as file
use Rattle.prism_tree.specs.Syntax.{File, file_of}
use Rattle.prism_flat.specs.Kept.{IsWrittenOut}
use Rattle.prism_check.specs.Checked.{IsChecked}
use Rattle.prism_check.specs.Codes.{held_file, file-back}

-- It could be judged so, and has no formula and no copy of a module.
pub record IsFlat (f : File) : Type 0 where
  pub checked : IsChecked (record { file = f; order = [] })
  pub form : IsWrittenOut f

-- how the logic stores a file
abbrev pub file_code : Coded File
file_code = code_by PrismFile file.the_row.coded held_file file_of file-back
