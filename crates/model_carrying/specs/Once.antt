-- How carrying a path ends is fixed by the bytes of both files and the words: statements, which are proved of a function of this crate.
-- (A rule of this project.)
use Rattle.std.specs.Prelude.{◌≡◌, ℕ, List}
use Rattle.bridge_io.specs.declared.reason.Fault.{Fault}
use Rattle.command_words.specs.Words.{Carrying}
use Rattle.model_process.specs.declared.ending.Ending.{Ending}
use Rattle.model_carrying.specs.Ends.{EndsOnCarryFiles, IsCarryFileFault}

-- one end at most, or one file that is refused at one fault, and not both
abbrev pub OneCarryEnd : Type 0
OneCarryEnd = (c : Carrying) (files : List (List ℕ)) (e g : Ending) → EndsOnCarryFiles c files e → EndsOnCarryFiles c files g → e ≡ g

abbrev pub OneCarryFault : Type 0
OneCarryFault = (c : Carrying) (files : List (List ℕ)) (i j : ℕ) (f g : Fault) → IsCarryFileFault c files i f → IsCarryFileFault c files j g → (i ≡ j) × (f ≡ g)

abbrev pub CarryEndOrFault : Type 0
CarryEndOrFault = (c : Carrying) (files : List (List ℕ)) (e : Ending) (i : ℕ) (f : Fault) → EndsOnCarryFiles c files e → IsCarryFileFault c files i f → ⊥
