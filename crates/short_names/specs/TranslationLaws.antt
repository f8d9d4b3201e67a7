-- That the names of a JANI translation are short, where those of the PRISM file are.
use Rattle.std.specs.Prelude.{◌≡◌, ◌<◌, ◌^◌, List, length}
use Rattle.std.specs.List.{AllByRecursion as Each}
use Rattle.basics.specs.Options.{IfAny}
use Rattle.prism_tree.specs.Syntax.{File}
use Rattle.prism_names.specs.Flat.{flat}
use Rattle.prism_check.specs.Checked.{Checked, IsChecked}
use Rattle.jani_tree.specs.Syntax as jani
use Rattle.jani_tree.specs.Places.{bare_file}
use Rattle.jani_tree.specs.Form.{FileShort}
use Rattle.name_table.specs.Entries.{Ask}
use Rattle.name_table.specs.Asks.{asks}
use Rattle.jani_translation.specs.Translated.{translated}
use Rattle.short_names.specs.ShortNames.{IsShort, HasShortNames}

-- each old name that is asked for is short
abbrev pub AsksAreShort : List Ask → Type 0
AsksAreShort asked = Each (λ a. IfAny IsShort a.1) asked

-- Written out, a file whose names are short asks for short names.
abbrev pub FlatNamesAreShort : Type 0
FlatNamesAreShort = (file : File) → HasShortNames file → AsksAreShort (asks (flat file))

-- Each list of what has a name of its own has fewer than 2 ^ 64 members, as each list has that the program holds.
pub record IsHeld (f : jani.File) : Type 0 where
  pub actions : length f.actions < 2 ^ 64
  pub constants : length f.constants < 2 ^ 64
  pub variables : length f.variables < 2 ^ 64
  pub automata : length f.automata < 2 ^ 64

-- How many names a file asks for shows what it is translated to: fewer than 2 ^ 66, where the lists of that are such, places aside.
abbrev pub AsksAreFew : Type 0
AsksAreFew = (file : File) (model : jani.File) → bare_file model ≡ bare_file (translated file) → IsHeld model → length (asks file) < 2 ^ 66

-- Such a file without fault is translated to one whose names are short, places aside.
abbrev pub TranslatedNamesAreShort : Type 0
TranslatedNamesAreShort = (c : Checked) → IsChecked c → HasShortNames c.file → (model : jani.File) → bare_file model ≡ bare_file (translated (flat c.file)) → IsHeld model →
    FileShort model
