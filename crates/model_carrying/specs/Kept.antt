-- What a carried path keeps, from the bytes of the files. (This project's own rule.)
use Rattle.std.specs.Prelude.{◌≡◌, ℕ, List, [], ◌∷◌, Ok}
use Rattle.instance_start.specs.Description.{Description}
use Rattle.row_check.specs.declared.data.Verdict.{Verdict}
use Rattle.row_check.specs.declared.data.Verdict.TheVariants.{Yes}
use Rattle.row_check.specs.Checks.{ChecksPath}
use Rattle.path_carry.specs.Kept.{KeepsPath}
use Rattle.command_words.specs.Words.{Carrying}
use Rattle.model_process.specs.Starts.{process_for}
use Rattle.model_process.specs.declared.ending.Ending.TheVariants as E
use Rattle.model_carrying.specs.Counterparts.{Counterpart, HasCounterpart}
use Rattle.model_carrying.specs.Ends.{EndsOnCarryFiles, process_there}

-- The text is a path file of the model's counterpart, and where neither check passes a bound it is accepted there exactly where the path's file
-- is accepted here.
abbrev pub IsKept : Carrying → List ℕ → List ℕ → List ℕ → Type 0
IsKept c model path text = (d : Description) × (o : Counterpart) × HasCounterpart c.lang model d o × KeepsPath (process_for d c.given) (process_there d o c.given) path text

-- The path's file isn't accepted.
abbrev pub IsNotAccepted : Carrying → List ℕ → List ℕ → Type 0
IsNotAccepted c model path = (d : Description) × (o : Counterpart) × HasCounterpart c.lang model d o × ((v : Verdict) → ChecksPath (process_for d c.given) path (Ok v) → ¬ (v ≡ Yes))

-- Whatever is written of a path that is carried is kept; and where it is told that a line isn't carried, the path isn't accepted.
abbrev pub CarriedIsKept : Type 0
CarriedIsKept = (c : Carrying) (model path text : List ℕ) → EndsOnCarryFiles c (model ∷ path ∷ []) (E.Done text) → IsKept c model path text

abbrev pub LostIsNotAccepted : Type 0
LostIsNotAccepted = (c : Carrying) (model path line : List ℕ) → EndsOnCarryFiles c (model ∷ path ∷ []) (E.No line) → IsNotAccepted c model path
