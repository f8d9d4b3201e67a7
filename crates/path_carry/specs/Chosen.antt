-- What the labels of steps are chosen as, or what passes a bound first. (This project's own rule.)
use Rattle.std.specs.Prelude.{◌≡◌, ℕ, List, Option, Some, None, Result, Ok, Err}
use Rattle.process_core.specs.Ready.{Name}
use Rattle.process_core.specs.Steps.{Process}
use Rattle.process_core.specs.declared.data.State.{State}
use Rattle.process_core.specs.declared.data.StepFail.{StepFail}
use Rattle.process_core.specs.declared.data.StepFail.TheVariants as S
use Rattle.carry_maps.specs.declared.map.LabelPair.{LabelPair}
use Rattle.path_carry.specs.declared.data.Carried.TheVariants as C
use Rattle.path_carry.specs.declared.choosing.LabelsFail.{LabelsFail}
use Rattle.path_carry.specs.declared.choosing.LabelsFail.TheVariants.{Memory, Wide, TooMany}
use Rattle.row_check.specs.declared.data.ReadPath.{ReadPath}
use Rattle.carry_maps.specs.declared.map.CarryMap.{CarryMap}
use Rattle.path_carry.specs.declared.data.Carried.{Carried}
use Rattle.path_carry.specs.Texts.{path_text}
use Rattle.path_carry.specs.Carried.{chosen_labels, first_excess, prism_states, prism_path}

abbrev pub Chooses : Process → List LabelPair → List State → List (Option Name) → Result (List (Option Name)) LabelsFail → Type 0
Chooses prism ps ss ls (Ok new) = (first_excess prism 0 ss ls ≡ None) × (new ≡ chosen_labels prism ps ss ls)
Chooses prism ps ss ls (Err (Wide k)) = first_excess prism 0 ss ls ≡ Some (C.Wide k)
Chooses prism ps ss ls (Err (TooMany k)) = first_excess prism 0 ss ls ≡ Some (C.TooMany k)
Chooses prism ps ss ls (Err (Memory e)) = Unit {0}

-- a failure at the state after so many steps
abbrev pub fail_at : ℕ → StepFail → LabelsFail
fail_at k (S.Memory e) = Memory e
fail_at k S.Wide = Wide k
fail_at k S.TooMany = TooMany k

-- a path that is carried to PRISM along its states, none of which is lost
abbrev pub Exceeds : Process → CarryMap → ReadPath → Option Carried → Type 0
Exceeds prism m path o = first_excess prism 0 (prism_states m path.states) path.labels ≡ o

abbrev pub GoesAlong : Process → CarryMap → ReadPath → Carried → Type 0
GoesAlong prism m path (C.Path text) = Exceeds prism m path None × (text ≡ path_text prism.columns (prism_path prism m path))
GoesAlong prism m path (C.No k) = ⊥
GoesAlong prism m path (C.Wide k) = Exceeds prism m path (Some (C.Wide k))
GoesAlong prism m path (C.TooMany k) = Exceeds prism m path (Some (C.TooMany k))
