-- How a state is shown, a walk ends or a claim is judged is fixed by the bytes of the files and the words: statements, which are proved of a
-- function of this crate.
use Rattle.std.specs.Prelude.{◌≡◌, ℕ, List}
use Rattle.bridge_io.specs.declared.reason.Fault.{Fault}
use Rattle.command_words.specs.declared.request.Lang.{Lang}
use Rattle.command_words.specs.Words.{Checking, Walking}
use Rattle.model_process.specs.Models.{IsModelFault}
use Rattle.model_process.specs.Walks.{EndsOnBytes}
use Rattle.model_process.specs.Claims.{EndsOnFiles, IsFileFault}
use Rattle.model_process.specs.declared.ending.Ending.{Ending}

-- ---- one state, and walks: one end at most, or one least fault of the file, and not both
abbrev pub OneEnd : Type 0
OneEnd = (lang : Lang) (w : Walking) (bytes : List ℕ) (e g : Ending) → EndsOnBytes lang w bytes e → EndsOnBytes lang w bytes g → e ≡ g

abbrev pub OneModelFault : Type 0
OneModelFault = (lang : Lang) (bytes : List ℕ) (f g : Fault) → IsModelFault lang bytes f → IsModelFault lang bytes g → f ≡ g

abbrev pub EndOrFault : Type 0
EndOrFault = (lang : Lang) (w : Walking) (bytes : List ℕ) (e : Ending) (f : Fault) → EndsOnBytes lang w bytes e → IsModelFault lang bytes f → ⊥

-- ---- claims: one end at most, or one file that is refused at one fault, and not both
abbrev pub OneClaimEnd : Type 0
OneClaimEnd = (c : Checking) (files : List (List ℕ)) (e g : Ending) → EndsOnFiles c files e → EndsOnFiles c files g → e ≡ g

abbrev pub OneFileFault : Type 0
OneFileFault = (c : Checking) (files : List (List ℕ)) (i j : ℕ) (f g : Fault) → IsFileFault c files i f → IsFileFault c files j g → (i ≡ j) × (f ≡ g)

abbrev pub ClaimEndOrFault : Type 0
ClaimEndOrFault = (c : Checking) (files : List (List ℕ)) (e : Ending) (i : ℕ) (f : Fault) → EndsOnFiles c files e → IsFileFault c files i f → ⊥
