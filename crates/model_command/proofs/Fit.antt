-- Where a file is fit for its task, and the run says so.
use Rattle.std.proofs.Common.{arith, ◌≡◌, ◌⊎◌, sym, subst, ℕ, ◌+◌, ◌≤◌, List, length, Option, Some, None, inl, inr}
use Rattle.bridge_io.specs.Outside.{Lefts}
use Rattle.bridge_io.specs.ReadFail.{IsTooLong}
use Rattle.bridge_io.specs.declared.transfer.ReadFail.TheVariants.{TooLong as TooLongAt}
use Rattle.bridge_io.specs.declared.reason.Reason.{Reason}
use Rattle.bridge_io.specs.declared.reason.Reason.TheVariants.{TooLong}
use Rattle.bridge_io.specs.declared.place.Place.{Place}
use Rattle.command_words.specs.declared.request.Task.{Task}
use Rattle.command_words.specs.Words.{Request, on_file, IsRequest, OneRequest}
use Rattle.model_process.specs.declared.ending.Ending.{Ending}
use Rattle.model_command.specs.Tasks.{IsFit}
use Rattle.model_command.specs.Outcome.{status_of}
use Rattle.model_command.specs.Run.{IsCause, IsEnd, IsLongEnd, IsReadEnd, ShelfSides}
use Rattle.model_command.specs.declared.outcome.Outcome.{Outcome}
use Rattle.model_command.specs.declared.outcome.Outcome.TheVariants.{Done, Ended, Refused, Words, ReadFault, NoMemory}
use Rattle.model_command.proofs.Exact.{least_not_fit, too_long_told, whole_bytes, wrong_not_form}
use Rattle.model_command.proofs.Several.{long_alone, task_read}

module _ (task : Task) (name : List ℕ) (lefts : Lefts) (bytes : List ℕ) (had : lefts name ≡ Some bytes) (fit : IsFit task bytes) (within : length bytes ≤ 16777216) where
  long_kept : (after : Option Lefts) (reason : Reason) (place : Place) → (reason ≡ TooLong) × IsTooLong (Some lefts) after name 16777216 (TooLongAt place) → ⊥
  long_kept None reason place r = absurd r.1.2
  long_kept (Some now) reason place r =
      let t = r.1 in
      let long : length t.0 ≤ length bytes = too_long_told lefts now name bytes t.0 had t.2.was t.3 in
      let many : length t.0 ≡ 16777216 + 1 = t.1 in
      omega (arith, long, many, within)

  fit_kept : (named : List ℕ) (after : Option Lefts) (reason : Reason) (place : Place) →
      IsLongEnd (on_file task name) named (Some lefts) after reason place ⊎ IsReadEnd (on_file task name) named (Some lefts) after (Refused reason place) → ⊥
  fit_kept named after reason place (inl r) = long_kept after reason place (long_alone name named (Some lefts) after reason place r).1
  fit_kept named after reason place (inr r) =
      let k = (task_read task name named (Some lefts) after (Refused reason place) r).1 in
      least_not_fit task k.0 k.2.0 k.2.1 (subst (IsFit task) (sym (whole_bytes lefts after name bytes k.0 had k.1)) fit)

module _ (shelf : ShelfSides) (words : List (List ℕ)) (named : List ℕ) (answer : ℕ) (one : OneRequest)
    (lefts : Lefts) (task : Task) (name bytes : List ℕ) (told : shelf.left ≡ Some lefts) (had : lefts name ≡ Some bytes) (form : IsRequest words (on_file task name)) (fit : IsFit task bytes) (within : length bytes ≤ 16777216) where
  refusal_kept : (request : Request) (reason : Reason) (place : Place) → IsRequest words request → IsEnd shelf request named (Refused reason place) → ⊥
  refusal_kept request reason place asked end =
      let P : Request → Option Lefts → Type 0 = λ r before. IsLongEnd r named before shelf.left_after reason place ⊎ IsReadEnd r named before shelf.left_after (Refused reason place) in
      let e : P (on_file task name) (Some lefts) = subst (P (on_file task name)) told (subst (λ r. P r shelf.left) (one words request (on_file task name) asked form) end) in
      fit_kept task name lefts bytes had fit within named shelf.left_after reason place e

  ended_not : (request : Request) (e : Ending) → IsRequest words request → IsEnd shelf request named (Ended e) → ⊥
  ended_not request e asked end =
      let P : Request → Type 0 = λ r. IsReadEnd r named shelf.left shelf.left_after (Ended e) in
      let d : P (on_file task name) = subst P (one words request (on_file task name) asked form) end in
      (task_read task name named shelf.left shelf.left_after (Ended e) d).1.2

  pub exact_fit : (outcome : Outcome) → IsCause shelf words named outcome → (answer ≡ status_of outcome) ⊎ (answer ≡ 5) → (answer ≡ 0) ⊎ (answer ≡ 4) ⊎ (answer ≡ 5) ⊎ (answer ≡ 6)
  exact_fit (Done text) cause status = grind (arith, status)
  exact_fit (Ended e) (inl cause) status = absurd cause
  exact_fit (Ended e) (inr cause) status = absurd (ended_not cause.0 e cause.1 cause.2)
  exact_fit (Refused reason place) (inl cause) status = absurd cause
  exact_fit (Refused reason place) (inr cause) status = absurd (refusal_kept cause.0 reason place cause.1 cause.2)
  exact_fit (Words j) (inl cause) status = absurd (wrong_not_form words j (on_file task name) cause form)
  exact_fit (Words j) (inr cause) status = absurd cause.2
  exact_fit ReadFault cause status = grind (arith, status)
  exact_fit NoMemory cause status = grind (arith, status)
