-- What holds of the form and of the names of the PRISM file that a JANI file is translated to: statements, which are proved of
-- the functions of this crate. (What may be spelled, and which names have to differ, to be known and to lead round in no circle:
-- PRISM manual, "The PRISM Language"; that translated files are so: this project's own rule.)
use Rattle.std.specs.Prelude.{◌≡◌, [], Some}
use Rattle.bridge_io.specs.declared.reason.Named.{Named}
use Rattle.prism_tree.specs.Syntax.{Rewards}
use Rattle.prism_names.specs.Places.{IsPlaceOrder}
use Rattle.prism_flat.specs.Kept.{IsWrittenOut}
use Rattle.std.specs.List.{AllByRecursion as Each}
use Rattle.prism_print.specs.Printable.{IsPrintable}
use Rattle.prism_check.specs.NameFaults.{circles, doubled_names, name_faults, no_module, unknown_names}
use Rattle.jani_tree.specs.Syntax.{File}
use Rattle.jani_check.specs.Faults.{IsChecked}
use Rattle.prism_print.specs.Comments.{IsComment}
use Rattle.prism_translation.specs.Lines.{lines}
use Rattle.prism_translation.specs.Translated.{translated}

-- ---- form
-- There is no formula and no copy of a module, whether the JANI file has a fault or not.
abbrev pub TranslatedIsWrittenOut : File → Type 0
TranslatedIsWrittenOut file = IsWrittenOut (translated file)

-- So its formulas, of which there are none, stand in an order.
abbrev pub TranslatedIsInOrder : File → Type 0
TranslatedIsInOrder file = IsPlaceOrder (translated file) []

-- Each reward structure has a name.
abbrev pub HasName : Rewards → Type 0
HasName r = (x : Named) × (r.name ≡ Some x)

abbrev pub RewardsAreNamed : File → Type 0
RewardsAreNamed file = Each HasName (translated file).rewards

-- Where the JANI file has no fault: names are identifiers that are not reserved, literals are in normal form and not negative,
-- each node has its operator's number of operands, and a command has a branch, and each of several a probability.
abbrev pub TranslatedIsPrintable : File → Type 0
TranslatedIsPrintable file = IsChecked file → IsPrintable (translated file)

-- ---- names
-- No two names that have to differ are the same, whether the JANI file has a fault or not: those of constants and variables, the
-- variables of locations too, those of modules, those of labels, which are not "init" or "deadlock" either, and those of reward
-- structures.
abbrev pub NoDoubledNames : File → Type 0
NoDoubledNames file = doubled_names (translated file) ≡ []

-- Every name that is read or written is that of a constant or a variable.
abbrev pub NoUnknownNames : File → Type 0
NoUnknownNames file = IsChecked file → unknown_names (translated file) ≡ []

-- No constant depends on itself.
abbrev pub NoCircles : File → Type 0
NoCircles file = IsChecked file → circles (translated file) ≡ []

-- There is a module.
abbrev pub SomeModule : File → Type 0
SomeModule file = IsChecked file → no_module (translated file) ≡ []

-- So there is no fault of names.
abbrev pub NoNameFault : File → Type 0
NoNameFault file = IsChecked file → name_faults (translated file) ≡ []

-- ---- comment lines
-- Each line that tells an old name is a comment.
abbrev pub LinesAreComments : File → Type 0
LinesAreComments file = Each IsComment (lines file)
