-- How a model is started under the values that the words give for its constants, or how it ends before that: by the constants;
-- else by the instance, where something is wide or it has faults. (The order and the texts are this project's own rule.)
use Rattle.std.specs.Prelude.{◌≡◌, ◌≢◌, ℕ, ◌+◌, List, [], length, true, false, Some, None, Result, Ok, Err, codes}
use Rattle.process_core.specs.Instance.{Scene, is_wide_instance, instance_faults}
use Rattle.process_core.specs.Steps.{Process}
use Rattle.instance_start.specs.Description.{Description}
use Rattle.instance_start.specs.Given.{given_by}
use Rattle.instance_start.specs.Started.{named_faults}
use Rattle.walk_texts.specs.Lines.{fault_lines}
use Rattle.command_words.specs.Given.{Assignment}
use Rattle.model_process.specs.Constants.{givens, wrong_value}
use Rattle.model_process.specs.declared.ending.Ending.{Ending}
use Rattle.model_process.specs.declared.ending.Ending.TheVariants.{Word, Faulty, Excess}
use Rattle.model_process.specs.declared.starting.Unstarted.{Unstarted}
use Rattle.model_process.specs.declared.starting.Unstarted.TheVariants as U

-- the position behind so many words and those of the constants
abbrev pub IsBehind : ℕ → List Assignment → ℕ → Type 0
IsBehind before given next = next ≡ before + length given + 1

abbrev pub wide_instance_line : List ℕ
wide_instance_line = codes "bridge: wide at instance\n"

-- what a model comes out as under the values that the words give, and the process that it then is
abbrev pub scene_for : Description → List Assignment → Scene
scene_for d given = d.scene (given_by (givens given))

abbrev pub process_for : Description → List Assignment → Process
process_for d given = d.process (given_by (givens given))

-- the values fit, and the instance is within the bound and has no fault
pub record IsStartable (d : Description) (given : List Assignment) : Type 0 where
  pub fits : wrong_value d.constants given ≡ None
  pub narrow : is_wide_instance (scene_for d given) ≡ false
  pub faultless : instance_faults (scene_for d given) ≡ []

-- how it ends where it isn't: a value doesn't fit, its word behind so many others; or something in the instance is wide; or the
-- instance has faults
pub data EndsUnstarted (d : Description) (before : ℕ) (given : List Assignment) (e : Ending) : Type 0 where
  unfit : (i : ℕ) → wrong_value d.constants given ≡ Some i → e ≡ Word (before + 1 + i) → EndsUnstarted d before given e
  wide : wrong_value d.constants given ≡ None → is_wide_instance (scene_for d given) ≡ true → e ≡ Excess [] wide_instance_line → EndsUnstarted d before given e
  faulty : wrong_value d.constants given ≡ None → is_wide_instance (scene_for d given) ≡ false → instance_faults (scene_for d given) ≢ [] →
      e ≡ Faulty (fault_lines (named_faults d.constants (scene_for d given))) → EndsUnstarted d before given e

-- it is started, as the process that it describes; or it ends before that; want of memory may come at any time
abbrev pub Begins : {I : Type 0} → (I → Process) → Description → ℕ → List Assignment → Result I Unstarted → Type 0
Begins process d before given (Ok i) = IsStartable d given × (process i ≡ process_for d given)
Begins process d before given (Err (U.Memory e)) = Unit {0}
Begins process d before given (Err (U.Ended e)) = EndsUnstarted d before given e
