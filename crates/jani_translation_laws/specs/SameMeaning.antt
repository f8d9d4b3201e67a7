-- A file without faults and what it is translated to mean the same process: the statement, which is proved of functions of
-- this crate.
use Rattle.std.specs.Prelude.{◌≡◌, ℕ, ◌+◌, ◌++◌, map, length, Option, if◌then◌else◌}
use Rattle.std.specs.Option.{option_map}
use Rattle.process_core.specs.Process.{SameProcess}
use Rattle.process_core.specs.Ready.{Values, Name}
use Rattle.prism_tree.specs.Syntax as prism
use Rattle.prism_names.specs.Flat.{flat}
use Rattle.process_core.specs.Instance.{Fault, fault_of, is_of_constant}
use Rattle.prism_flat.specs.Process as prism_process
use Rattle.prism_check.specs.Checked.{Checked, IsChecked}
use Rattle.jani_tree.specs.Syntax as jani
use Rattle.jani_tree.specs.Places.{bare_file}
use Rattle.jani_meaning.specs.Process as jani_process
use Rattle.name_table.specs.Asks.{new_names}
use Rattle.name_table.specs.Correspond.{Correspond}
use Rattle.jani_translation.specs.Translated.{translated}
use Rattle.jani_translation.specs.StateLaws.{at_home}
use Rattle.jani_tree.specs.Syntax.{element_names}

-- ---- what corresponds: constants do by their places (`Correspond`)

-- a fault where so many elements come first: columns are the locations of the elements, and then the variables
abbrev pub placed : ℕ → Fault → Fault
placed n f = fault_of f.kind (if is_of_constant f.kind then f.place else n + f.place)

-- a state of the translated file: each element at its one location, and then the same values
abbrev pub homes : jani.File → Values
homes new = map (λ a. at_home) (element_names new)

-- a label of the translated file: the new name of an action, and none for none
abbrev pub label_in : prism.File → Option Name → Option Name
label_in old = option_map (new_names (flat old)).action

-- ---- the statement
-- Under valuations that correspond, the instance faults are the same; and, where there are none, the states go one to one onto
-- those of the translated file, and the same are initial, with the same marks; and each choice occurs equally often, with the
-- new name of its label, the same probabilities and rewards, and the states that go with its targets, or the same kinds.
abbrev pub MeansTheSame : prism.File → jani.File → Type 0
MeansTheSame old new =
    SameProcess (prism_process.model old) (jani_process.model new) (Correspond old new) (placed (length (element_names new))) (label_in old) (λ s. homes new ++ s)

-- A file without faults means the same as what it is translated to, formulas and copies written out, places aside.
abbrev pub TranslationMeansTheSame : Type 0
TranslationMeansTheSame = (c : Checked) → IsChecked c → (new : jani.File) → bare_file new ≡ bare_file (translated (flat c.file)) → MeansTheSame c.file new
