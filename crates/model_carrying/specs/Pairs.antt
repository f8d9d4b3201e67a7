-- A model and its counterpart as a program goes about them: as trees, and started or not. (This project's own rule.)
use Rattle.std.specs.Prelude.{◌≡◌, ◌≢◌, ◌⊎◌, zero, suc, ℕ, List, [], None, Result, Ok, Err}
use Rattle.std.specs.List.{AllByRecursion as Each}
use Rattle.std.specs.Option.{IfSome}
use Rattle.bridge_io.specs.declared.reason.Fault.{Fault}
use Rattle.bridge_io.specs.declared.reason.Reason.TheVariants.{TooLarge}
use Rattle.bridge_io.specs.declared.reason.Refused.{Refused}
use Rattle.bridge_io.specs.declared.reason.Refused.TheVariants as R
use Rattle.name_rules.specs.Least.{IsLeast}
use Rattle.process_core.specs.Instance.{instance_faults}
use Rattle.process_core.specs.Steps.{Process}
use Rattle.process_core.specs.declared.data.StartFail.{StartFail}
use Rattle.process_core.specs.declared.data.StartFail.TheVariants.{Wide, Word, Faults}
use Rattle.process_core.specs.declared.data.StartFail.TheVariants as S
use Rattle.instance_start.specs.Description.{Description}
use Rattle.instance_start.specs.Given.{given_by, misfit}
use Rattle.instance_start.specs.Started.{Starts}
use Rattle.carry_maps.specs.declared.map.CarryMap.{CarryMap}
use Rattle.carry_maps.specs.Maps.{AreSameBy, HasLabels}
use Rattle.path_carry.specs.declared.data.Carried.{Carried}
use Rattle.path_carry.specs.Carried.{CarriesFile}
use Rattle.path_carry.specs.Kept.{Keeps}
use Rattle.path_carry.specs.Texts.{HeaderIsLine, IsShort}
use Rattle.row_check.specs.declared.data.ReadPath.{ReadPath}
use Rattle.prism_tree.specs.Syntax as prism
use Rattle.prism_names.specs.Flat.{flat}
use Rattle.prism_print.specs.Same.{bare_file}
use Rattle.prism_check.specs.Flattened.{IsFlat}
use Rattle.prism_check.specs.NameFaults as prism_names
use Rattle.prism_check.specs.SizeFaults.{size_faults}
use Rattle.jani_tree.specs.Syntax as jani
use Rattle.jani_tree.specs.Form.{FileShort}
use Rattle.jani_check.specs.NameFaults as jani_names
use Rattle.prism_to_jani.specs.Promise.{IsJaniOf}
use Rattle.prism_translation.specs.Refused.{refused}
use Rattle.jani_to_prism.specs.Promise.{IsPrismOf}
use Rattle.command_words.specs.Given.{Assignment}
use Rattle.command_words.specs.Words.{Carrying}
use Rattle.model_process.specs.Constants.{givens, good_front, wrong_value}
use Rattle.model_process.specs.Starts.{scene_for, process_for, wide_instance_line}
use Rattle.model_process.specs.declared.ending.Ending.{Ending}
use Rattle.model_process.specs.declared.ending.Ending.TheVariants as E
use Rattle.model_process.specs.declared.judging.ClaimRefused.{ClaimRefused}
use Rattle.model_process.specs.declared.judging.ClaimRefused.TheVariants.{Memory, At}
use Rattle.model_process.specs.declared.starting.Unstarted.{Unstarted}
use Rattle.model_process.specs.declared.starting.Unstarted.TheVariants as U
use Rattle.model_carrying.specs.Counterparts.{Counterpart}
use Rattle.model_carrying.specs.Ends.{ArePairStartable, EndsOnCarry, IsPathFault, carry_ending, process_there, scene_there}
use Rattle.model_carrying.specs.Values.{values_there}

-- ---- as trees
-- a PRISM file, the same written out, and the JANI file that it is translated to, whose names are short
pub record IsPairToJani (old written : prism.File) (new : jani.File) : Type 0 where
  pub named : prism_names.name_faults old ≡ []
  pub flattened : IsFlat written
  pub shape : bare_file written ≡ bare_file (flat old)
  pub translated : IsJaniOf old new
  pub short : FileShort new

-- a JANI file, the PRISM file that it is translated to, and that one written out
pub record IsPairToPrism (old : jani.File) (new written : prism.File) : Type 0 where
  pub named : jani_names.name_faults old ≡ []
  pub flattened : IsFlat written
  pub shape : bare_file written ≡ bare_file (flat new)
  pub translated : IsPrismOf old new

abbrev pub counterpart_of : Description → CarryMap → Counterpart
counterpart_of d m = record { description = d; map = m }

-- ---- the PRISM file that a JANI file is translated to, as it is judged
-- it is written out so, where it passes no limit
abbrev pub IsWrittenFor : jani.File → prism.File → Type 0
IsWrittenFor tree written = (refused tree ≡ []) × ((new : prism.File) × IsPrismOf tree new × (size_faults new ≡ []) × (bare_file written ≡ bare_file (flat new)))

-- it passes a limit, which is told at the first byte
abbrev pub IsAtStart : Fault → Type 0
IsAtStart f = f ≡ record { reason = TooLarge; at = 0 }

abbrev pub PassesSize : prism.File → Refused → Type 0
PassesSize new (R.Memory e) = Unit {0}
PassesSize new (R.At f) = (size_faults new ≢ []) × IsAtStart f

-- there is none, or it passes a limit
abbrev pub IsUntranslated : jani.File → Fault → Type 0
IsUntranslated tree f = IsLeast (refused tree) f ⊎ ((refused tree ≡ []) × ((new : prism.File) × IsPrismOf tree new × (size_faults new ≢ []) × IsAtStart f))

abbrev pub RefusesCounterpart : jani.File → Refused → Type 0
RefusesCounterpart tree (R.Memory e) = Unit {0}
RefusesCounterpart tree (R.At f) = IsUntranslated tree f

-- ---- started
-- The values that fit the model fit its counterpart, and where the one has no fault under them, neither has the other.
pub record ArePaired (d : Description) (o : Counterpart) (given : List Assignment) : Type 0 where
  pub fits : wrong_value d.constants given ≡ None → misfit o.description.constants (values_there d.constants o.description.constants (given_by (givens given))) ≡ None
  pub sound : wrong_value d.constants given ≡ None → instance_faults (scene_for d given) ≡ [] → instance_faults (scene_there d o given) ≡ []

-- the counterpart is started under the values before the first that is past the bound
abbrev pub StartsThere : {I : Type 0} → (I → Process) → Description → Counterpart → List Assignment → Result I StartFail → Type 0
StartsThere process d o given r = Starts process o.description (values_there d.constants o.description.constants (given_by (good_front given))) r

-- it ends where something is wide; want of memory may come at any time
abbrev pub EndsWide : Unstarted → Type 0
EndsWide (U.Memory e) = Unit {0}
EndsWide (U.Ended e) = e ≡ E.Excess [] wide_instance_line

-- of a counterpart that isn't started, where the model is: it can only be wide
abbrev pub WideUnlessMemory : StartFail → Unstarted → Type 0
WideUnlessMemory (S.Memory e) u = u ≡ U.Memory e
WideUnlessMemory Wide u = EndsWide u
WideUnlessMemory (Word i) u = EndsWide u
WideUnlessMemory (Faults fs) u = EndsWide u

-- of a model that isn't started: so; but where it has faults the counterpart may be wide
abbrev pub WideUnlessFaulty : {I : Type 0} → List ℕ → Result I StartFail → Unstarted → Type 0
WideUnlessFaulty lines (Ok i) u = u ≡ U.Ended (E.Faulty lines)
WideUnlessFaulty lines (Err (S.Memory e)) u = u ≡ U.Memory e
WideUnlessFaulty lines (Err Wide) u = EndsWide u
WideUnlessFaulty lines (Err (Word i)) u = u ≡ U.Ended (E.Faulty lines)
WideUnlessFaulty lines (Err (Faults fs)) u = u ≡ U.Ended (E.Faulty lines)

abbrev pub FailsBehind : {I : Type 0} → Ending → Result I StartFail → Unstarted → Type 0
FailsBehind (E.Faulty lines) r u = WideUnlessFaulty lines r u
FailsBehind (E.Done text) r u = u ≡ U.Ended (E.Done text)
FailsBehind (E.No line) r u = u ≡ U.Ended (E.No line)
FailsBehind (E.Stopped path line) r u = u ≡ U.Ended (E.Stopped path line)
FailsBehind (E.Word i) r u = u ≡ U.Ended (E.Word i)
FailsBehind (E.Excess path line) r u = u ≡ U.Ended (E.Excess path line)

-- Both are started, as the processes that they describe; or it ends before that, whatever the path; want of memory may come at any time.
abbrev pub BeginsBoth : {I J : Type 0} → (I → Process) → (J → Process) → Description → Counterpart → Carrying → Result (I × J) Unstarted → Type 0
BeginsBoth here there d o c (Ok p) = ArePairStartable d o c.given × (here p.0 ≡ process_for d c.given) × (there p.1 ≡ process_there d o c.given)
BeginsBoth here there d o c (Err (U.Memory e)) = Unit {0}
BeginsBoth here there d o c (Err (U.Ended e)) = (path : List ℕ) → EndsOnCarry d o c path e

-- ---- a path carried
-- what carrying asks of two processes and their map
pub record MayCarryToJani (prism jani : Process) (m : CarryMap) : Type 0 where
  pub same : AreSameBy m prism jani
  pub labels : HasLabels m.labels
  pub names : Each (λ p. IfSome p.jani IsShort) m.labels
  pub header : HeaderIsLine jani

pub record MayCarryToPrism (jani prism : Process) (m : CarryMap) : Type 0 where
  pub same : AreSameBy m prism jani
  pub names : Each (λ p. IsShort p.prism) m.labels
  pub header : HeaderIsLine prism

-- the same of two processes, where both are started
abbrev pub MayBothToJani : {I J : Type 0} → (I → Process) → (J → Process) → CarryMap → Result (I × J) Unstarted → Type 0
MayBothToJani here there m (Ok p) = MayCarryToJani (here p.0) (there p.1) m
MayBothToJani here there m (Err u) = Unit {0}

abbrev pub MayBothToPrism : {I J : Type 0} → (I → Process) → (J → Process) → CarryMap → Result (I × J) Unstarted → Type 0
MayBothToPrism here there m (Ok p) = MayCarryToPrism (here p.0) (there p.1) m
MayBothToPrism here there m (Err u) = Unit {0}

-- and so of what starting each answers
abbrev pub MayMeetToJani : {I J : Type 0} → (I → Process) → (J → Process) → CarryMap → Result I Unstarted → Result J StartFail → Type 0
MayMeetToJani here there m (Ok i) (Ok j) = MayCarryToJani (here i) (there j) m
MayMeetToJani here there m (Ok i) (Err f) = Unit {0}
MayMeetToJani here there m (Err u) r = Unit {0}

abbrev pub MayMeetToPrism : {I J : Type 0} → (I → Process) → (J → Process) → CarryMap → Result I Unstarted → Result J StartFail → Type 0
MayMeetToPrism here there m (Ok i) (Ok j) = MayCarryToPrism (here i) (there j) m
MayMeetToPrism here there m (Ok i) (Err f) = Unit {0}
MayMeetToPrism here there m (Err u) r = Unit {0}

-- it ends with what the path is carried to, which keeps what it has to; or a line breaks the form of the path's file
abbrev pub CarriesOnProcesses : (ReadPath → Carried → Type 0) → Process → Process → List ℕ → Result Ending ClaimRefused → Type 0
CarriesOnProcesses Is here there path (Ok e) = (r : Carried) × CarriesFile Is here path (Ok r) × Keeps here there path r × (e ≡ carry_ending r)
CarriesOnProcesses Is here there path (Err (Memory e)) = Unit {0}
CarriesOnProcesses Is here there path (Err (At zero f)) = ⊥
CarriesOnProcesses Is here there path (Err (At (suc zero) f)) = CarriesFile Is here path (Err (R.At f))
CarriesOnProcesses Is here there path (Err (At (suc (suc i)) f)) = ⊥

-- how it ends on a model and its counterpart
abbrev pub CarriesOnModels : Description → Counterpart → Carrying → List ℕ → Result Ending ClaimRefused → Type 0
CarriesOnModels d o c path (Ok e) = EndsOnCarry d o c path e
CarriesOnModels d o c path (Err (Memory e)) = Unit {0}
CarriesOnModels d o c path (Err (At zero f)) = ⊥
CarriesOnModels d o c path (Err (At (suc zero) f)) = IsPathFault d o c path f
CarriesOnModels d o c path (Err (At (suc (suc i)) f)) = ⊥

-- the same for some counterpart of a model; or the model's file is refused
abbrev pub CarriesFor : (Counterpart → Type 0) → (Fault → Type 0) → Description → Carrying → List ℕ → Result Ending ClaimRefused → Type 0
CarriesFor Is Fails d c path (Ok e) = (o : Counterpart) × Is o × EndsOnCarry d o c path e
CarriesFor Is Fails d c path (Err (Memory e)) = Unit {0}
CarriesFor Is Fails d c path (Err (At zero f)) = Fails f
CarriesFor Is Fails d c path (Err (At (suc zero) f)) = (o : Counterpart) × Is o × IsPathFault d o c path f
CarriesFor Is Fails d c path (Err (At (suc (suc i)) f)) = ⊥
