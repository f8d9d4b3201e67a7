-- What holds of the new names of a file: statements, which are proved of the functions of this crate.
use Rattle.std.specs.Prelude.{◌≡◌, ◌≢◌, map, bytes_eq, Contains}
use Rattle.std.specs.List.{IsDistinct}
use Rattle.process_core.specs.Ready.{Name}
use Rattle.prism_tree.specs.Syntax as prism
use Rattle.name_table.specs.Asks.{actions, value_names, new_names}
use Rattle.jani_translation.specs.Automata.{zz_silent}
use Rattle.jani_translation.specs.Translated.{translated}

-- Where no two constants and variables have one name, no other name becomes the new name of one of them.
abbrev pub ValuesDiffer : prism.File → Type 0
ValuesDiffer file = IsDistinct bytes_eq (value_names file) → (x y : Name) → Contains (value_names file) x →
    (new_names file).value y ≡ (new_names file).value x → y ≡ x

-- and the constants of the translated file have the new names, in order
abbrev pub ConstantNames : prism.File → Type 0
ConstantNames file = IsDistinct bytes_eq (value_names file) →
    map (λ c. c.name.name) (translated file).constants ≡ map (λ c. (new_names file).value c.name.name) file.constants

-- No other name becomes the new name of an action.
abbrev pub ActionsDiffer : prism.File → Type 0
ActionsDiffer file = (a b : Name) → Contains (actions file) a → (new_names file).action b ≡ (new_names file).action a → b ≡ a

-- No name becomes zz_silent.
abbrev pub ActionsAreNotSilent : prism.File → Type 0
ActionsAreNotSilent file = (a : Name) → (new_names file).action a ≢ zz_silent.name
