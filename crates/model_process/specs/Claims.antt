-- How a claim about a process is judged, once all files are read: by the faults of the model's file; else before its process is
-- started; else by the form of the other files; else by the verdict on what they hold. (The order and the texts are this project's
-- own rule.)
use Rattle.std.specs.Prelude.{◌≡◌, ℕ, zero, suc, List, [], ◌∷◌, Some, None, Result, Ok, Err}
use Rattle.bridge_io.specs.declared.reason.Fault.{Fault}
use Rattle.bridge_io.specs.declared.reason.Refused.{Refused}
use Rattle.bridge_io.specs.declared.reason.Refused.TheVariants as R
use Rattle.process_core.specs.Steps.{Process}
use Rattle.instance_start.specs.Description.{Description}
use Rattle.command_words.specs.Words.{Claim, of_path, of_rows, of_bounds, Checking, words_before_given}
use Rattle.row_check.specs.Checks.{ChecksPath, ChecksRows}
use Rattle.row_check.specs.declared.data.RowsRefused.TheVariants as W
use Rattle.value_bound.specs.Checks.{ChecksBound, IsCertified}
use Rattle.value_bound.specs.Labels.{label_named}
use Rattle.value_bound.specs.declared.data.BoundVerdict.{BoundVerdict}
use Rattle.value_bound.specs.declared.data.BoundVerdict.TheVariants.{Yes}
use Rattle.value_bound.specs.declared.data.BoundRefused.{BoundRefused}
use Rattle.value_bound.specs.declared.data.BoundRefused.TheVariants as B
use Rattle.model_process.specs.Models.{Describes, IsModelFault}
use Rattle.model_process.specs.Starts.{EndsUnstarted, IsStartable, process_for}
use Rattle.model_process.specs.Verdicts.{verdict_ending}
use Rattle.model_process.specs.declared.ending.Ending.{Ending}
use Rattle.model_process.specs.declared.finding.Finding.{Finding}
use Rattle.model_process.specs.declared.finding.Finding.TheVariants.{Judged, Bounds, NoLabel}
use Rattle.model_process.specs.declared.judging.ClaimRefused.{ClaimRefused}
use Rattle.model_process.specs.declared.judging.ClaimRefused.TheVariants.{Memory, At}

-- the verdict on bounds for the label of this name, and where it is yes, what that certifies
abbrev pub HasBoundVerdict : Process → List ℕ → List ℕ → List ℕ → List ℕ → BoundVerdict → Type 0
HasBoundVerdict p name states rows bounds v =
    (label : ℕ) × (label_named p name ≡ Some label) × ChecksBound p states rows label bounds (Ok v) × (v ≡ Yes → IsCertified p states rows label bounds)

-- the files break their form, for such a label
abbrev pub BreaksBounds : Process → List ℕ → List ℕ → List ℕ → List ℕ → BoundRefused → Type 0
BreaksBounds p name states rows bounds r = (label : ℕ) × (label_named p name ≡ Some label) × ChecksBound p states rows label bounds (Err r)

-- what is found of what the other files hold of the process: the verdict, or that the process has no label of the name that bounds are for
abbrev pub HasVerdict : Process → Claim → List (List ℕ) → Finding → Type 0
HasVerdict p (of_path path) (file ∷ []) (Judged v) = ChecksPath p file (Ok v)
HasVerdict p (of_rows states rows) (first ∷ second ∷ []) (Judged v) = ChecksRows p first second (Ok v)
HasVerdict p (of_bounds states rows name bounds) (first ∷ second ∷ third ∷ []) (Bounds v) = HasBoundVerdict p name first second third v
HasVerdict p (of_bounds states rows name bounds) (first ∷ second ∷ third ∷ []) NoLabel = label_named p name ≡ None
HasVerdict p (of_path path) files found = ⊥
HasVerdict p (of_rows states rows) files found = ⊥
HasVerdict p (of_bounds states rows name bounds) files found = ⊥

-- the other file of this place, from 0, breaks its form, and those before it don't
abbrev pub BreaksForm : Process → Claim → List (List ℕ) → ℕ → Fault → Type 0
BreaksForm p (of_path path) (file ∷ []) zero f = ChecksPath p file (Err (R.At f))
BreaksForm p (of_rows states rows) (first ∷ second ∷ []) zero f = ChecksRows p first second (Err (W.States f))
BreaksForm p (of_rows states rows) (first ∷ second ∷ []) (suc zero) f = ChecksRows p first second (Err (W.Rows f))
BreaksForm p (of_bounds states rows name bounds) (first ∷ second ∷ third ∷ []) zero f = BreaksBounds p name first second third (B.States f)
BreaksForm p (of_bounds states rows name bounds) (first ∷ second ∷ third ∷ []) (suc zero) f = BreaksBounds p name first second third (B.Rows f)
BreaksForm p (of_bounds states rows name bounds) (first ∷ second ∷ third ∷ []) (suc (suc zero)) f = BreaksBounds p name first second third (B.Bounds f)
BreaksForm p (of_path path) files i f = ⊥
BreaksForm p (of_rows states rows) files i f = ⊥
BreaksForm p (of_bounds states rows name bounds) files i f = ⊥

-- how it ends on a model: before it is started; or with the verdict
pub data EndsOnClaim (d : Description) (c : Checking) (others : List (List ℕ)) (e : Ending) : Type 0 where
  unstarted : EndsUnstarted d (words_before_given c) c.given e → EndsOnClaim d c others e
  judged : IsStartable d c.given → (v : Finding) → HasVerdict (process_for d c.given) c.claim others v → e ≡ verdict_ending c.claim v → EndsOnClaim d c others e

-- another file breaks its form, where the model starts
pub record IsOtherFault (d : Description) (c : Checking) (others : List (List ℕ)) (i : ℕ) (f : Fault) : Type 0 where
  pub sound : IsStartable d c.given
  pub breaks : BreaksForm (process_for d c.given) c.claim others i f

-- how it ends on the bytes of all files, the model's first
abbrev pub EndsOnFiles : Checking → List (List ℕ) → Ending → Type 0
EndsOnFiles c [] e = ⊥
EndsOnFiles c (model ∷ others) e = (d : Description) × Describes c.lang model d × EndsOnClaim d c others e

-- the file of this place, from 0, is refused at this fault: the model's at its least one
abbrev pub IsFileFault : Checking → List (List ℕ) → ℕ → Fault → Type 0
IsFileFault c [] i f = ⊥
IsFileFault c (model ∷ others) zero f = IsModelFault c.lang model f
IsFileFault c (model ∷ others) (suc i) f = (d : Description) × Describes c.lang model d × IsOtherFault d c others i f

-- It ends so, or a file is refused; want of memory may come at any time.
abbrev pub JudgesOn : Checking → List (List ℕ) → Result Ending ClaimRefused → Type 0
JudgesOn c files (Ok e) = EndsOnFiles c files e
JudgesOn c files (Err (Memory e)) = Unit {0}
JudgesOn c files (Err (At i f)) = IsFileFault c files i f

-- ---- the same, as a program goes about it
-- on the process that a model was started as
abbrev pub Tells : Process → Claim → List (List ℕ) → Result Finding ClaimRefused → Type 0
Tells p claim others (Ok v) = HasVerdict p claim others v
Tells p claim others (Err (Memory e)) = Unit {0}
Tells p claim others (Err (At zero f)) = ⊥
Tells p claim others (Err (At (suc i) f)) = BreaksForm p claim others i f

abbrev pub JudgesOnProcess : Process → Claim → List (List ℕ) → Result Ending ClaimRefused → Type 0
JudgesOnProcess p claim others (Ok e) = (v : Finding) × HasVerdict p claim others v × (e ≡ verdict_ending claim v)
JudgesOnProcess p claim others (Err (Memory e)) = Unit {0}
JudgesOnProcess p claim others (Err (At zero f)) = ⊥
JudgesOnProcess p claim others (Err (At (suc i) f)) = BreaksForm p claim others i f

-- on a model
abbrev pub JudgesOnModel : Description → Checking → List (List ℕ) → Result Ending ClaimRefused → Type 0
JudgesOnModel d c others (Ok e) = EndsOnClaim d c others e
JudgesOnModel d c others (Err (Memory e)) = Unit {0}
JudgesOnModel d c others (Err (At zero f)) = ⊥
JudgesOnModel d c others (Err (At (suc i) f)) = IsOtherFault d c others i f

-- a fault told of the file of this place
abbrev pub at_file : ℕ → Refused → ClaimRefused
at_file i (R.Memory e) = Memory e
at_file i (R.At f) = At i f
