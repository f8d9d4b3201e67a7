-- What a run on a told file answers and writes.
-- (This project's own rule.)
use Rattle.std.specs.Prelude.{◌≡◌, ◌⊎◌, ◌↔◌, ℕ, ◌<◌, ◌≤◌, List, ◌∷◌, ◌++◌, length, Option, Some}
use Rattle.std.specs.List.{AllZip, AllByRecursion}
use Rattle.bridge_io.specs.Outside.{Lefts}
use Rattle.bridge_io.specs.Reason.{number_of, name_of}
use Rattle.bridge_io.specs.declared.reason.Fault.{Fault}
use Rattle.bridge_io.specs.declared.reason.Reason.TheVariants.{TooLong}
use Rattle.command_words.specs.declared.request.Task.{Task}
use Rattle.command_words.specs.Words.{Request, Walking, files_of}
use Rattle.model_command.specs.Outcome.{place_in, refusal_line, status_of, text_of, line_of}
use Rattle.model_files.specs.PrismFile.{IsPrismFault}
use Rattle.model_translation.specs.WithProperties.{AreFaultless, IsPropertiesFault, TranslatesWith}
use Rattle.model_command.specs.Tasks.{Makes, IsFit, IsLeastFor}
use Rattle.model_command.specs.Run.{IsWalkEnd, IsEndOn}
use Rattle.model_command.specs.declared.outcome.Outcome.{Outcome}

-- ---- translations and checks
-- a file that the task is done for, within the limits
abbrev pub IsAccepted : Task → List ℕ → Type 0
IsAccepted task bytes = (length bytes ≤ 16777216) × IsFit task bytes

-- what is told of a file that is too long, at the first byte past the limit
abbrev pub too_long : Fault
too_long = record { reason = TooLong; at = 16777216 }

-- The least fault of a file that isn't accepted: it is too long; or, where it
-- isn't, the least fault of its tokens, else of its grammar, else of its names, else of its size, else of its types. Of a JANI file
-- it is the least fault of its JSON, else of its shape, else of its names, else of its types, else of the profile.
pub record IsFault (task : Task) (bytes : List ℕ) (f : Fault) : Type 0 where
  pub long : 16777216 < length bytes → f ≡ too_long
  pub short : length bytes ≤ 16777216 → IsLeastFor task bytes f

-- the line that tells it
abbrev pub fault_line : List ℕ → List ℕ → Fault → List ℕ
fault_line name bytes f = refusal_line name (place_in bytes f.at) (number_of f.reason) (name_of f.reason)

-- out and err held was and said before, and hold this now
pub record IsHeadline (task : Task) (bytes name was said : List ℕ) (out err : Option (List ℕ)) (answer : ℕ) : Type 0 where
  pub exactly : (answer ≡ 0) ↔ IsAccepted task bytes
  pub accepted : answer ≡ 0 → (text : List ℕ) × Makes task bytes text × (out ≡ Some (was ++ text)) × (err ≡ Some said)
  pub refused : (IsAccepted task bytes → ⊥) → (answer ≡ 2) × (out ≡ Some was)
      × ((f : Fault) × IsFault task bytes f × (err ≡ Some (said ++ fault_line name bytes f)))

-- ---- one state, and walks
-- A file within the limit ends as the definitions say, and this is answered and written; a file past it is refused.
pub record IsShownAsTold (w : Walking) (bytes was said : List ℕ) (out err : Option (List ℕ)) (answer : ℕ) : Type 0 where
  pub short : length bytes ≤ 16777216 → (o : Outcome) × IsWalkEnd w bytes o × (answer ≡ status_of o)
      × (out ≡ Some (was ++ text_of o)) × (err ≡ Some (said ++ line_of w.file o))
  pub long : 16777216 < length bytes → (answer ≡ 2) × (out ≡ Some was) × (err ≡ Some (said ++ fault_line w.file bytes too_long))

-- ---- several files
-- the contents that are left under names
abbrev pub AreHeld : Lefts → List (List ℕ) → List (List ℕ) → Type 0
AreHeld left names contents = AllZip (λ name bytes. left name ≡ Some bytes) names contents

abbrev pub AreShort : List (List ℕ) → Type 0
AreShort contents = AllByRecursion (λ bytes. length bytes ≤ 16777216) contents

-- the first file past the limit, and its name
abbrev pub IsFirstLong : List (List ℕ) → List (List ℕ) → List ℕ → List ℕ → Type 0
IsFirstLong (n ∷ names) (b ∷ contents) name bytes =
    ((16777216 < length b) × (name ≡ n) × (bytes ≡ b)) ⊎ ((length b ≤ 16777216) × IsFirstLong names contents name bytes)
IsFirstLong names contents name bytes = ⊥

-- Where all files are within the limit the request ends as the definitions say, and this is answered and written; else the first that
-- is past it is refused.
pub record IsEndedAsTold (request : Request) (contents : List (List ℕ)) (was said : List ℕ) (out err : Option (List ℕ)) (answer : ℕ) : Type 0 where
  pub short : AreShort contents → (name : List ℕ) × (o : Outcome) × IsEndOn request contents name o × (answer ≡ status_of o)
      × (out ≡ Some (was ++ text_of o)) × (err ≡ Some (said ++ line_of name o))
  pub long : (name bytes : List ℕ) → IsFirstLong (files_of request) contents name bytes → (answer ≡ 2) × (out ≡ Some was)
      × (err ≡ Some (said ++ fault_line name bytes too_long))

-- ---- a model with its properties
-- both files are within the limits and without fault
pub record AreAccepted (model properties : List ℕ) : Type 0 where
  pub short : length model ≤ 16777216
  pub properties_short : length properties ≤ 16777216
  pub faultless : AreFaultless model properties

-- The fault that is told of files that aren't accepted, of the bytes of one of them under its name: the model is too long; or it isn't, and
-- the properties are; or neither is, and it is the least fault of the model; or that has none, and it is the least one of the properties.
pub data IsFaultOfFiles (file properties model second : List ℕ) : List ℕ → List ℕ → Fault → Type 0 where
  long_model : 16777216 < length model → IsFaultOfFiles file properties model second file model too_long
  long_properties : length model ≤ 16777216 → 16777216 < length second → IsFaultOfFiles file properties model second properties second too_long
  of_model : (f : Fault) → length model ≤ 16777216 → length second ≤ 16777216 → IsPrismFault model f → IsFaultOfFiles file properties model second file model f
  of_properties : (f : Fault) → length model ≤ 16777216 → length second ≤ 16777216 → IsPropertiesFault model second f → IsFaultOfFiles file properties model second properties second f

pub record IsTranslatedAsTold (file properties model second was said : List ℕ) (out err : Option (List ℕ)) (answer : ℕ) : Type 0 where
  pub exactly : (answer ≡ 0) ↔ AreAccepted model second
  pub accepted : answer ≡ 0 → (text : List ℕ) × TranslatesWith model second text × (out ≡ Some (was ++ text)) × (err ≡ Some said)
  pub refused : (AreAccepted model second → ⊥) → (answer ≡ 2) × (out ≡ Some was)
      × ((name : List ℕ) × (bytes : List ℕ) × (f : Fault) × IsFaultOfFiles file properties model second name bytes f × (err ≡ Some (said ++ fault_line name bytes f)))
