-- The statements that `translate` goes by, under names. Outside the proofs that open one, only its name is seen.
use Rattle.std.specs.Prelude.{◌≡◌, List, map}
use Rattle.std.specs.Borrow.{Bor}
use Rattle.process_core.specs.Ready.{Name}
use Rattle.prism_tree.specs.declared.syntax.PrismFile.{PrismFile}
use Rattle.prism_tree.specs.declared.syntax.PrismVar.{PrismVar}
use Rattle.prism_tree.specs.Syntax as prism
use Rattle.jani_tree.specs.Places.{bare_file}
use Rattle.jani_tree.specs.Syntax.{File}
use Rattle.name_table.specs.declared.entry.Entry.{Entry}
use Rattle.jani_automata.specs.Names.{Names}
use Rattle.name_table.specs.Asks.{variables, actions, entries, new_names}
use Rattle.jani_translation.specs.Translated.{translated}
use Rattle.jani_automata.specs.Code.{names_in}

-- these are the variables of the file, in the order of columns
unfoldable pub AreVariables : List (Bor PrismVar) → PrismFile → Type 0
AreVariables xs f = map (λ x. prism.var_of x.now) xs ≡ variables (prism.file_of f)

-- these are the actions of the file's commands, in order of first occurrence
unfoldable pub AreActions : List (Bor Name) → PrismFile → Type 0
AreActions xs f = map (λ x. x.now) xs ≡ actions (prism.file_of f)

-- these are the entries of all that the file asks for
unfoldable pub AreEntries : List Entry → PrismFile → Type 0
AreEntries es f = es ≡ entries (prism.file_of f)

-- these are the new names of the file
unfoldable pub AreNames : Names → PrismFile → Type 0
AreNames n f = names_in n ≡ new_names (prism.file_of f)

-- this JANI file is what the PRISM file is translated to, whatever the places
unfoldable pub IsTranslation : File → prism.File → Type 0
IsTranslation r f = bare_file r ≡ bare_file (translated f)
