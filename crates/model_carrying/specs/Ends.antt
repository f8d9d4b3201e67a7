-- How carrying a path ends, once both files are read: by the faults of the model's file; else before the process or its counterpart is
-- started; else by the form of the path's file; else with the path that is carried, or why there is none. (The order and the texts are this
-- project's own rule.)
use Rattle.std.specs.Prelude.{◌≡◌, ◌≢◌, ℕ, zero, suc, ◌+◌, List, [], ◌∷◌, Bool, true, false, ◌||◌, Some, None, Result, Ok, Err, codes}
use Rattle.bridge_io.specs.declared.reason.Fault.{Fault}
use Rattle.bridge_io.specs.declared.reason.Refused.TheVariants as R
use Rattle.process_core.specs.Instance.{Scene, Valuation, is_wide_instance, instance_faults}
use Rattle.process_core.specs.Steps.{Process}
use Rattle.instance_start.specs.Description.{Description}
use Rattle.instance_start.specs.Given.{given_by}
use Rattle.instance_start.specs.Started.{named_faults}
use Rattle.walk_texts.specs.Lines.{fault_lines}
use Rattle.row_check.specs.declared.data.ReadPath.{ReadPath}
use Rattle.row_check.specs.declared.data.Why.TheVariants.{Step}
use Rattle.carry_maps.specs.declared.map.CarryMap.{CarryMap}
use Rattle.path_carry.specs.declared.data.Carried.{Carried}
use Rattle.path_carry.specs.declared.data.Carried.TheVariants as C
use Rattle.path_carry.specs.Carried.{CarriedToJani, CarriedToPrism, CarriesFile}
use Rattle.path_carry.specs.Kept.{Keeps}
use Rattle.command_words.specs.declared.request.Lang.{Lang}
use Rattle.command_words.specs.declared.request.Lang.TheVariants.{Prism, Jani}
use Rattle.command_words.specs.Given.{Assignment}
use Rattle.command_words.specs.Words.{Carrying}
use Rattle.model_process.specs.Constants.{givens, wrong_value}
use Rattle.model_process.specs.Starts.{IsStartable, scene_for, process_for, wide_instance_line}
use Rattle.model_process.specs.Verdicts.{no_line, passed_line}
use Rattle.model_process.specs.declared.ending.Ending.{Ending}
use Rattle.model_process.specs.declared.ending.Ending.TheVariants as E
use Rattle.model_process.specs.declared.judging.ClaimRefused.{ClaimRefused}
use Rattle.model_process.specs.declared.judging.ClaimRefused.TheVariants.{Memory, At}
use Rattle.model_carrying.specs.Counterparts.{Counterpart, HasCounterpart, IsCarryFault}
use Rattle.model_carrying.specs.Values.{values_there}

-- ---- the counterpart under the values that the words give
abbrev pub valuation_there : Description → Counterpart → List Assignment → Valuation
valuation_there d o given = given_by (values_there d.constants o.description.constants (given_by (givens given)))

abbrev pub scene_there : Description → Counterpart → List Assignment → Scene
scene_there d o given = o.description.scene (valuation_there d o given)

abbrev pub process_there : Description → Counterpart → List Assignment → Process
process_there d o given = o.description.process (valuation_there d o given)

-- something is wide in one of the two instances
abbrev pub is_wide_pair : Description → Counterpart → List Assignment → Bool
is_wide_pair d o given = is_wide_instance (scene_for d given) || is_wide_instance (scene_there d o given)

-- the values fit, both instances are within the bound, and the model's has no fault
pub record ArePairStartable (d : Description) (o : Counterpart) (given : List Assignment) : Type 0 where
  pub here : IsStartable d given
  pub there : is_wide_instance (scene_there d o given) ≡ false

-- ---- the path that is carried
abbrev pub IsCarried : Lang → Process → Process → CarryMap → ReadPath → Carried → Type 0
IsCarried Prism here there m path c = CarriedToJani here there m path c
IsCarried Jani here there m path c = CarriedToPrism here there m path c

abbrev pub carry_ending : Carried → Ending
carry_ending (C.Path text) = E.Done text
carry_ending (C.No k) = E.No (no_line (Step k))
carry_ending (C.Wide k) = E.Excess [] (passed_line (codes "wide") (codes "step") k)
carry_ending (C.TooMany k) = E.Excess [] (passed_line (codes "too many") (codes "step") k)

-- ---- how it ends on a model: a value doesn't fit, its word behind `carry-path LANG FILE PATH`; or something in one of the instances is wide; or the
-- model's has faults; or with a path, and what that keeps
pub data EndsOnCarry (d : Description) (o : Counterpart) (c : Carrying) (bytes : List ℕ) (e : Ending) : Type 0 where
  unfit : (i : ℕ) → wrong_value d.constants c.given ≡ Some i → e ≡ E.Word (4 + 1 + i) → EndsOnCarry d o c bytes e
  wide : wrong_value d.constants c.given ≡ None → is_wide_pair d o c.given ≡ true → e ≡ E.Excess [] wide_instance_line → EndsOnCarry d o c bytes e
  faulty : wrong_value d.constants c.given ≡ None → is_wide_pair d o c.given ≡ false → instance_faults (scene_for d c.given) ≢ [] →
      e ≡ E.Faulty (fault_lines (named_faults d.constants (scene_for d c.given))) → EndsOnCarry d o c bytes e
  carried : ArePairStartable d o c.given → (r : Carried) → CarriesFile (IsCarried c.lang (process_for d c.given) (process_there d o c.given) o.map) (process_for d c.given) bytes (Ok r) →
      Keeps (process_for d c.given) (process_there d o c.given) bytes r → e ≡ carry_ending r → EndsOnCarry d o c bytes e

-- a line breaks the form of the path's file, where both start
pub record IsPathFault (d : Description) (o : Counterpart) (c : Carrying) (bytes : List ℕ) (f : Fault) : Type 0 where
  pub sound : ArePairStartable d o c.given
  pub breaks : CarriesFile (IsCarried c.lang (process_for d c.given) (process_there d o c.given) o.map) (process_for d c.given) bytes (Err (R.At f))

-- how it ends on the bytes of both files, the model's first
abbrev pub EndsOnCarryFiles : Carrying → List (List ℕ) → Ending → Type 0
EndsOnCarryFiles c (model ∷ path ∷ []) e = (d : Description) × (o : Counterpart) × HasCounterpart c.lang model d o × EndsOnCarry d o c path e
EndsOnCarryFiles c files e = ⊥

-- the file of this place, from 0, is refused at this fault
abbrev pub IsCarryFileFault : Carrying → List (List ℕ) → ℕ → Fault → Type 0
IsCarryFileFault c (model ∷ path ∷ []) zero f = IsCarryFault c.lang model f
IsCarryFileFault c (model ∷ path ∷ []) (suc zero) f = (d : Description) × (o : Counterpart) × HasCounterpart c.lang model d o × IsPathFault d o c path f
IsCarryFileFault c files i f = ⊥

-- It ends so, or a file is refused; want of memory may come at any time.
abbrev pub CarriesOn : Carrying → List (List ℕ) → Result Ending ClaimRefused → Type 0
CarriesOn c files (Ok e) = EndsOnCarryFiles c files e
CarriesOn c files (Err (Memory e)) = Unit {0}
CarriesOn c files (Err (At i f)) = IsCarryFileFault c files i f
