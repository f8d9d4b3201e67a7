-- What `simulate` writes with status 0 of a walk, `check-path` accepts. (This project's own rule.)
use Rattle.std.specs.Prelude.{◌≡◌, ℕ, List, [], ◌∷◌, codes}
use Rattle.bridge_io.specs.declared.reason.Fault.{Fault}
use Rattle.instance_start.specs.Description.{Description}
use Rattle.command_words.specs.Words.{Job, showing, along, seeded, Walking, of_path, Checking}
use Rattle.model_process.specs.Models.{Describes}
use Rattle.model_process.specs.Walks.{EndsOnModel, EndsOnBytes}
use Rattle.model_process.specs.Claims.{EndsOnClaim, EndsOnFiles, IsFileFault}
use Rattle.model_process.specs.declared.ending.Ending.{Ending}
use Rattle.model_process.specs.declared.ending.Ending.TheVariants.{Done}

-- a walk, along numbers or by a seed
abbrev pub IsWalk : Job → Type 0
IsWalk (showing state) = ⊥
IsWalk (along from pairs) = Unit {0}
IsWalk (seeded from seed steps) = Unit {0}

-- The one takes a walk through a model, the other judges a path of it, in the same language and under the same constants.
pub record AskAlike (w : Walking) (c : Checking) (path : List ℕ) : Type 0 where
  pub walk : IsWalk w.job
  pub claim : c.claim ≡ of_path path
  pub language : c.lang ≡ w.lang
  pub constants : c.given ≡ w.given

-- Where a walk on these bytes comes to its end, and what is written of it is judged as a path on the same bytes, that ends with yes.
abbrev pub WalksEndWithYes : Type 0
WalksEndWithYes = (bytes text path : List ℕ) (w : Walking) (c : Checking) → AskAlike w c path → EndsOnBytes w.lang w bytes (Done text) → EndsOnFiles c (bytes ∷ text ∷ []) (Done (codes "yes\n"))

-- No file is refused there, so what is written has the form of a path.
abbrev pub WalksAreNotRefused : Type 0
WalksAreNotRefused = (bytes text path : List ℕ) (w : Walking) (c : Checking) (i : ℕ) (f : Fault) → AskAlike w c path → EndsOnBytes w.lang w bytes (Done text) → IsFileFault c (bytes ∷ text ∷ []) i f → ⊥

-- The same of a description: the judgement has no other end.
abbrev pub WalksAreAccepted : Type 0
WalksAreAccepted = (bytes text path : List ℕ) (d : Description) (w : Walking) (c : Checking) (e : Ending) → Describes w.lang bytes d → AskAlike w c path →
    EndsOnModel d w (Done text) → EndsOnClaim d c (text ∷ []) e → e ≡ Done (codes "yes\n")
