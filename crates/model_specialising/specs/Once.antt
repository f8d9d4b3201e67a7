-- How specialising a model ends is fixed by the bytes of its file and the words: statements, which are proved of a function of this crate.
-- (A rule of this project.)
use Rattle.std.specs.Prelude.{◌≡◌, ℕ, List}
use Rattle.bridge_io.specs.declared.reason.Fault.{Fault}
use Rattle.command_words.specs.Words.{Specialising}
use Rattle.model_process.specs.Models.{IsModelFault}
use Rattle.model_process.specs.declared.ending.Ending.{Ending}
use Rattle.model_specialising.specs.Ends.{EndsOnSpecialise}

-- one end at most, and none where the file is refused
abbrev pub OneSpecialiseEnd : Type 0
OneSpecialiseEnd = (p : Specialising) (bytes : List ℕ) (e g : Ending) → EndsOnSpecialise p bytes e → EndsOnSpecialise p bytes g → e ≡ g

abbrev pub SpecialiseEndOrFault : Type 0
SpecialiseEndOrFault = (p : Specialising) (bytes : List ℕ) (e : Ending) (f : Fault) → EndsOnSpecialise p bytes e → IsModelFault p.lang bytes f → ⊥
