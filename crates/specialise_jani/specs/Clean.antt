-- A specialised file of the profile is of the profile, and where the names of a file are short, so are those of the specialised one.
-- (jani-model specification, "Models"; the faults are those of this project's profile.)
use Rattle.process_core.specs.Instance.{Valuation}
use Rattle.jani_tree.specs.Syntax.{File}
use Rattle.jani_tree.specs.Form.{FileShort}
use Rattle.jani_check.specs.Faults.{IsChecked}
use Rattle.constant_folding.specs.Unfit.{AreFitting}
use Rattle.specialise_jani.specs.Specialised.{any_constants, specialised}

abbrev pub SpecialisedIsClean : Type 0
SpecialisedIsClean = (file : File) (given : Valuation) → IsChecked file → AreFitting (any_constants file) given → IsChecked (specialised file given)

abbrev pub SpecialisedIsShort : Type 0
SpecialisedIsShort = (file : File) (given : Valuation) → FileShort file → FileShort (specialised file given)
