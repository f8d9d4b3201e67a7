-- What status 0 says of a claim on bounds.
use Rattle.std.proofs.Common.{◌≡◌, ◌⊎◌, ◌∙◌, sym, subst, ℕ, List, inl, inr}
use Rattle.command_words.specs.Words.{Checking, check, files_of, IsRequest, OneRequest}
use Rattle.model_process.specs.Certified.{Certifies, RightCertifies}
use Rattle.model_process.specs.declared.ending.Ending.TheVariants as Ends
use Rattle.model_command.specs.Outcome.{status_of}
use Rattle.model_command.specs.Run.{AreWhole, IsCause, IsReadEnd, ShelfSides}
use Rattle.model_command.specs.declared.outcome.Outcome.{Outcome}
use Rattle.model_command.specs.declared.outcome.Outcome.TheVariants.{Done, Ended, Refused, Words, ReadFault, NoMemory}

pub status_zero : (answer status : ℕ) → (answer ≡ status) ⊎ (answer ≡ 5) → answer ≡ 0 → status ≡ 0
status_zero answer status (inl e) zero = sym e ∙ zero
status_zero answer status (inr e) zero = let f : 5 ≡ 0 = sym e ∙ zero in absurd cc

module _ (shelf : ShelfSides) (words : List (List ℕ)) (one : OneRequest) (law : RightCertifies) (c : Checking) (form : IsRequest words (check c)) (name : List ℕ) where
  -- the files were read, and certify it
  abbrev pub AreCertified : Type 0
  AreCertified = (contents : List (List ℕ)) × AreWhole shelf.left shelf.left_after (files_of (check c)) contents × Certifies c contents

  of_end : (text : List ℕ) → IsReadEnd (check c) name shelf.left shelf.left_after (Ended (Ends.Done text)) → AreCertified
  of_end text (contents, whole, ends) = (contents, whole, law c contents text ends)

  not_done : (text : List ℕ) → IsReadEnd (check c) name shelf.left shelf.left_after (Done text) → ⊥
  not_done text (contents, whole, ends) = ends

  pub certified_of : (outcome : Outcome) → IsCause shelf words name outcome → status_of outcome ≡ 0 → AreCertified
  certified_of (Done text) (inl why) zero = absurd why
  certified_of (Done text) (inr (request, asked, end)) zero =
      absurd (not_done text (subst (λ r. IsReadEnd r name shelf.left shelf.left_after (Done text)) (one words request (check c) asked form) end))
  certified_of (Ended (Ends.Done text)) (inl why) zero = absurd why
  certified_of (Ended (Ends.Done text)) (inr (request, asked, end)) zero =
      of_end text (subst (λ r. IsReadEnd r name shelf.left shelf.left_after (Ended (Ends.Done text))) (one words request (check c) asked form) end)
  certified_of (Ended (Ends.No line)) why zero = absurd cc
  certified_of (Ended (Ends.Stopped path line)) why zero = absurd cc
  certified_of (Ended (Ends.Word k)) why zero = absurd cc
  certified_of (Ended (Ends.Faulty lines)) why zero = absurd cc
  certified_of (Ended (Ends.Excess path line)) why zero = absurd cc
  certified_of (Refused reason place) why zero = absurd cc
  certified_of (Words k) why zero = absurd cc
  certified_of ReadFault why zero = absurd cc
  certified_of NoMemory why zero = absurd cc
