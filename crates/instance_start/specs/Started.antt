-- What starting a model under given constants answers: first whether these fit, then whether something is wide, then the
-- instance's faults, each exactly; else the process that the model describes under them. (The order is this project's own rule.)
use Rattle.std.specs.Prelude.{◌≡◌, ◌≢◌, List, [], map, Bool, true, false, Some, None, Result, Ok, Err, slice_get, unwrap_or}
use Rattle.process_core.specs.Ready.{Name}
use Rattle.process_core.specs.Instance.{Scene, Fault, is_wide_instance, instance_faults, is_of_constant}
use Rattle.process_core.specs.Steps.{Process}
use Rattle.process_core.specs.declared.data.InstanceFault.{InstanceFault}
use Rattle.process_core.specs.declared.data.StartFail.{StartFail}
use Rattle.process_core.specs.declared.data.StartFail.TheVariants.{Memory, Wide, Faults, Word}
use Rattle.process_core.specs.declared.data.Given.{Given}
use Rattle.instance_start.specs.Description.{Constant, Description}
use Rattle.instance_start.specs.Given.{given_by, misfit}

-- ---- faults by name

-- the name that the constant or the variable of the fault has
abbrev pub place_name : List Name → List Name → Bool → Fault → Name
place_name constants columns true f = unwrap_or (slice_get constants f.place) []
place_name constants columns false f = unwrap_or (slice_get columns f.place) []

abbrev pub named_fault : List Name → List Name → Fault → InstanceFault
named_fault constants columns f = record { kind = f.kind; name = place_name constants columns (is_of_constant f.kind) f }

-- the instance's faults in order, each with its name
abbrev pub named_faults : List Constant → Scene → List InstanceFault
named_faults constants k = map (named_fault (map (λ c. c.name) constants) (map (λ c. c.name) k.columns)) (instance_faults k)

-- ---- the answer
-- why a model that comes out as a scene can't be stepped, where the constants fit
abbrev pub FailsIn : List Constant → Scene → StartFail → Type 0
FailsIn constants k (Memory e) = Unit {0}
FailsIn constants k (Word i) = ⊥
FailsIn constants k Wide = is_wide_instance k ≡ true
FailsIn constants k (Faults fs) = (is_wide_instance k ≡ false) × (instance_faults k ≢ []) × (fs ≡ named_faults constants k)

abbrev pub FailsToStart : Description → List Given → StartFail → Type 0
FailsToStart d given (Memory e) = Unit {0}
FailsToStart d given (Word i) = misfit d.constants given ≡ Some i
FailsToStart d given Wide = (misfit d.constants given ≡ None) × FailsIn d.constants (d.scene (given_by given)) Wide
FailsToStart d given (Faults fs) = (misfit d.constants given ≡ None) × FailsIn d.constants (d.scene (given_by given)) (Faults fs)

-- it starts: the constants fit, the instance is narrow and has no fault, and this is its process
pub record IsStarted (d : Description) (given : List Given) (p : Process) : Type 0 where
  pub fits : misfit d.constants given ≡ None
  pub narrow : is_wide_instance (d.scene (given_by given)) ≡ false
  pub sound : instance_faults (d.scene (given_by given)) ≡ []
  pub process : p ≡ d.process (given_by given)

abbrev pub Starts : {I : Type 0} → (I → Process) → Description → List Given → Result I StartFail → Type 0
Starts process d given (Ok i) = IsStarted d given (process i)
Starts process d given (Err fail) = FailsToStart d given fail
