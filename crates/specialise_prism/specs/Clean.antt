-- A specialised file has no fault of names and none of types, and texts spell it.
-- (PRISM manual, "The PRISM Language"; the faults are those of this project's profile.)
use Rattle.process_core.specs.Instance.{Valuation}
use Rattle.prism_tree.specs.Syntax.{File}
use Rattle.prism_check.specs.Flattened.{IsFlat}
use Rattle.prism_check.specs.Clean.{IsClean}
use Rattle.constant_folding.specs.Unfit.{AreFitting}
use Rattle.specialise_prism.specs.Specialised.{any_constants, specialised}

abbrev pub SpecialisedIsClean : Type 0
SpecialisedIsClean = (file : File) (given : Valuation) → IsFlat file → AreFitting (any_constants file) given → IsClean (specialised file given)
