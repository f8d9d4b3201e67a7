-- What a yes on bounds says: the other files certify them for the process that the model's file describes.
-- (This project's own rule, over what a certificate is.)
use Rattle.std.specs.Prelude.{◌≡◌, ℕ, List, [], ◌∷◌, Some}
use Rattle.process_core.specs.Steps.{Process}
use Rattle.instance_start.specs.Description.{Description}
use Rattle.command_words.specs.Words.{Claim, of_path, of_rows, of_bounds, Checking}
use Rattle.value_bound.specs.Checks.{IsCertified}
use Rattle.value_bound.specs.Labels.{label_named}
use Rattle.model_process.specs.Models.{Describes}
use Rattle.model_process.specs.Starts.{IsStartable, process_for}
use Rattle.model_process.specs.Claims.{EndsOnFiles}
use Rattle.model_process.specs.declared.ending.Ending.TheVariants.{Done}

-- the other files hold rows of the process, and bounds for the label of this name that no strategy passes; of other claims nothing is said
abbrev pub CertifiesClaim : Process → Claim → List (List ℕ) → Type 0
CertifiesClaim p (of_path path) others = Unit {0}
CertifiesClaim p (of_rows states rows) others = Unit {0}
CertifiesClaim p (of_bounds states rows name bounds) (first ∷ second ∷ third ∷ []) = (label : ℕ) × (label_named p name ≡ Some label) × IsCertified p first second label third
CertifiesClaim p (of_bounds states rows name bounds) others = ⊥

-- they do so for the process that the model's file describes under the constants
abbrev pub Certifies : Checking → List (List ℕ) → Type 0
Certifies c [] = ⊥
Certifies c (model ∷ others) = (d : Description) × Describes c.lang model d × IsStartable d c.given × CertifiesClaim (process_for d c.given) c.claim others

-- where the claim is right, they do
abbrev pub RightCertifies : Type 0
RightCertifies = (c : Checking) (files : List (List ℕ)) (text : List ℕ) → EndsOnFiles c files (Done text) → Certifies c files
