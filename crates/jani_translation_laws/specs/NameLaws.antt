-- What holds of the JANI file that a PRISM file is translated to, where the PRISM file has no fault and is written out:
-- statements, which are proved of the functions of this crate.
use Rattle.std.specs.Prelude.{◌≡◌, []}
use Rattle.prism_tree.specs.Syntax as prism
use Rattle.prism_check.specs.Flattened.{IsFlat}
use Rattle.jani_tree.specs.Form.{FileRead}
use Rattle.jani_check.specs.NameFaults.{circles, composition_faults, doubled_names, name_faults, unknown_names}
use Rattle.jani_translation.specs.Translated.{translated}

-- A translated file has the form of trees: no name is empty, its literals are in normal form, each node has its operator's number
-- of operands, each variable a first value, each automaton one initial location and each edge a destination.
abbrev pub TranslatedHasForm : prism.File → Type 0
TranslatedHasForm file = IsFlat file → FileRead (translated file)

-- No two names that have to differ are the same in it, whether the PRISM file has a fault or not: those of constants and
-- variables, the transient ones too, those of actions, and those of automata.
abbrev pub NoDoubledNames : prism.File → Type 0
NoDoubledNames file = doubled_names (translated file) ≡ []

-- Every name that it uses is declared where it is used: in expressions and assignments a constant or a variable, in edges a
-- location of the automaton and an action, in the composition automata and actions.
abbrev pub NoUnknownNames : prism.File → Type 0
NoUnknownNames file = IsFlat file → unknown_names (translated file) ≡ []

-- No constant depends on itself.
abbrev pub NoCircles : prism.File → Type 0
NoCircles file = IsFlat file → circles (translated file) ≡ []

-- There is an element, each automaton is one once, and each vector has a part for each of them, with some that takes part.
abbrev pub NoCompositionFaults : prism.File → Type 0
NoCompositionFaults file = IsFlat file → composition_faults (translated file) ≡ []

-- So there is no fault of names.
abbrev pub NoNameFaults : prism.File → Type 0
NoNameFaults file = IsFlat file → name_faults (translated file) ≡ []
