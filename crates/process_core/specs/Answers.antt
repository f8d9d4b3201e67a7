-- What a call about a state answers: what there is to give where nothing passes a bound, else what does. Want of memory
-- may be answered at any time.
use Rattle.std.specs.Prelude.{◌≡◌, Bool, Option, Some, None, Result, Ok, Err, IsErrAnd, if◌then◌else◌}
use Rattle.std.proofs.Common.{sym, subst}
use Rattle.process_core.specs.Bounds.{Excess, IsWide, IsTooMany}
use Rattle.process_core.specs.declared.data.StepFail.{StepFail}
use Rattle.process_core.specs.declared.data.StepFail.TheVariants.{Memory, Wide, TooMany}

-- what a failure says, whatever there is to give
abbrev pub FailsBy : Option Excess → StepFail → Type 0
FailsBy excess Wide = excess ≡ Some IsWide
FailsBy excess TooMany = excess ≡ Some IsTooMany
FailsBy excess (Memory e) = Unit {0}

abbrev pub Answers : {X : Type 0} → Option Excess → (X → Type 0) → Result X StepFail → Type 0
Answers excess Is (Ok x) = (excess ≡ None) × Is x
Answers excess Is (Err f) = FailsBy excess f

-- nothing but a wide value may pass a bound
abbrev pub only_wide : Bool → Option Excess
only_wide wide = if wide then Some IsWide else None

-- a failure that is handed on
pub handed_on : {X : Type 0} (excess : Option Excess) (Is : X → Type 0) (f : StepFail) (r : Result X StepFail) → IsErrAnd r (λ g. g ≡ f) → FailsBy excess f → Answers excess Is r
handed_on excess Is f (Ok x) h k = absurd h
handed_on excess Is f (Err g) h k = subst (FailsBy excess) (sym h) k
