-- What statuses 0 and 1 say of a path that is carried.
use Rattle.std.proofs.Common.{arith, ◌≡◌, subst, ℕ, List, [], ◌∷◌, inl, inr}
use Rattle.std.specs.Io.KnownBytes.{Appends}
use Rattle.command_words.specs.Words.{Carrying, Request, carry, files_of, IsRequest, OneRequest}
use Rattle.model_process.specs.declared.ending.Ending.TheVariants as Ends
use Rattle.path_carry.specs.declared.data.Carried.{Carried}
use Rattle.path_carry.specs.declared.data.Carried.TheVariants as C
use Rattle.model_carrying.specs.Counterparts.{Counterpart}
use Rattle.model_carrying.specs.Ends.{EndsOnCarry, unfit, wide, faulty, carried, EndsOnCarryFiles, carry_ending}
use Rattle.model_carrying.specs.Kept.{CarriedIsKept, IsKept, IsNotAccepted, LostIsNotAccepted}
use Rattle.instance_start.specs.Description.{Description}
use Rattle.model_command.specs.Run.{AreWhole, EndsWith, IsCause, IsReadEnd, ShelfSides, SinkSides}
use Rattle.model_command.specs.declared.outcome.Outcome.{Outcome}
use Rattle.model_command.specs.declared.outcome.Outcome.TheVariants.{Done, Ended, Refused, Words, ReadFault, NoMemory}

-- carrying doesn't end as a walk that stops
not_stopped_so : (r : Carried) (path line : List ℕ) → Ends.Stopped path line ≡ carry_ending r → ⊥
not_stopped_so (C.Path text) path line e = cc
not_stopped_so (C.No k) path line e = cc
not_stopped_so (C.Wide k) path line e = cc
not_stopped_so (C.TooMany k) path line e = cc

not_stopped_on : (d : Description) (o : Counterpart) (c : Carrying) (bytes path line : List ℕ) → EndsOnCarry d o c bytes (Ends.Stopped path line) → ⊥
not_stopped_on d o c bytes path line (unfit i w e) = cc
not_stopped_on d o c bytes path line (wide w i e) = cc
not_stopped_on d o c bytes path line (faulty w i f e) = cc
not_stopped_on d o c bytes path line (carried s r h k e) = not_stopped_so r path line e

not_stopped : (c : Carrying) (contents : List (List ℕ)) (path line : List ℕ) → EndsOnCarryFiles c contents (Ends.Stopped path line) → ⊥
not_stopped c [] path line h = h
not_stopped c (model ∷ []) path line h = h
not_stopped c (model ∷ bytes ∷ []) path line (d, o, is, h) = not_stopped_on d o c bytes path line h
not_stopped c (model ∷ bytes ∷ other ∷ contents) path line h = h

module _ (shelf : ShelfSides) (out err : SinkSides) (answer : ℕ) (words : List (List ℕ)) (one : OneRequest) (c : Carrying) (form : IsRequest words (carry c)) (name : List ℕ) where
  -- the end that it comes to
  asked : (o : Outcome) → (r : Request) × IsRequest words r × IsReadEnd r name shelf.left shelf.left_after o → IsReadEnd (carry c) name shelf.left shelf.left_after o
  asked o (request, is, end) = subst (λ r. IsReadEnd r name shelf.left shelf.left_after o) (one words request (carry c) is form) end

  -- ---- status 0
  module _ (law : CarriedIsKept) where
    -- both files were read, and what was written is kept
    abbrev pub IsWrittenPath : Type 0
    IsWrittenPath = (model : List ℕ) × (path : List ℕ) × (text : List ℕ) × AreWhole shelf.left shelf.left_after (files_of (carry c)) (model ∷ path ∷ []) × Appends out.taken out.taken_after text × IsKept c model path text

    of_text : (contents : List (List ℕ)) (text : List ℕ) → AreWhole shelf.left shelf.left_after (files_of (carry c)) contents → Appends out.taken out.taken_after text → EndsOnCarryFiles c contents (Ends.Done text) → IsWrittenPath
    of_text [] text w a h = absurd h
    of_text (model ∷ []) text w a h = absurd h
    of_text (model ∷ path ∷ []) text w a h = (model, path, text, w, a, law c model path text h)
    of_text (model ∷ path ∷ other ∷ contents) text w a h = absurd h

    pub kept_of : (outcome : Outcome) → IsCause shelf words name outcome → EndsWith out err name outcome answer → answer ≡ 0 → IsWrittenPath
    kept_of (Done text) (inl why) e zero = absurd why
    kept_of (Done text) (inr why) e zero = absurd (asked (Done text) why).2
    kept_of (Ended (Ends.Done text)) (inl why) e zero = absurd why
    kept_of (Ended (Ends.Done text)) (inr why) (inl e) zero = let end = asked (Ended (Ends.Done text)) why in of_text end.0 text end.1 e.1 end.2
    kept_of (Ended (Ends.No line)) why (inl e) zero = absurd (omega (arith, e.0, zero))
    kept_of (Ended (Ends.Stopped path line)) why (inl e) zero = absurd (omega (arith, e.0, zero))
    kept_of (Ended (Ends.Word k)) why (inl e) zero = absurd (omega (arith, e.0, zero))
    kept_of (Ended (Ends.Faulty lines)) why (inl e) zero = absurd (omega (arith, e.0, zero))
    kept_of (Ended (Ends.Excess path line)) why (inl e) zero = absurd (omega (arith, e.0, zero))
    kept_of (Refused reason place) why (inl e) zero = absurd (omega (arith, e.0, zero))
    kept_of (Words k) why (inl e) zero = absurd (omega (arith, e.0, zero))
    kept_of ReadFault why (inl e) zero = absurd (omega (arith, e.0, zero))
    kept_of NoMemory why (inl e) zero = absurd (omega (arith, e.0, zero))
    kept_of outcome why (inr (inl e)) zero = absurd (omega (arith, e.0, zero))
    kept_of outcome why (inr (inr e)) zero = absurd (omega (arith, e.0, zero))

  -- ---- status 1
  module _ (law : LostIsNotAccepted) where
    -- both files were read, and the path isn't accepted
    abbrev pub IsLostPath : Type 0
    IsLostPath = (model : List ℕ) × (path : List ℕ) × AreWhole shelf.left shelf.left_after (files_of (carry c)) (model ∷ path ∷ []) × IsNotAccepted c model path

    of_line : (contents : List (List ℕ)) (line : List ℕ) → AreWhole shelf.left shelf.left_after (files_of (carry c)) contents → EndsOnCarryFiles c contents (Ends.No line) → IsLostPath
    of_line [] line w h = absurd h
    of_line (model ∷ []) line w h = absurd h
    of_line (model ∷ path ∷ []) line w h = (model, path, w, law c model path line h)
    of_line (model ∷ path ∷ other ∷ contents) line w h = absurd h

    pub lost_of : (outcome : Outcome) → IsCause shelf words name outcome → EndsWith out err name outcome answer → answer ≡ 1 → IsLostPath
    lost_of (Done text) why (inl e) status = absurd (omega (arith, e.0, status))
    lost_of (Ended (Ends.Done text)) why (inl e) status = absurd (omega (arith, e.0, status))
    lost_of (Ended (Ends.No line)) (inl why) e status = absurd why
    lost_of (Ended (Ends.No line)) (inr why) e status = let end = asked (Ended (Ends.No line)) why in of_line end.0 line end.1 end.2
    lost_of (Ended (Ends.Stopped path line)) (inl why) e status = absurd why
    lost_of (Ended (Ends.Stopped path line)) (inr why) e status = let end = asked (Ended (Ends.Stopped path line)) why in absurd (not_stopped c end.0 path line end.2)
    lost_of (Ended (Ends.Word k)) why (inl e) status = absurd (omega (arith, e.0, status))
    lost_of (Ended (Ends.Faulty lines)) why (inl e) status = absurd (omega (arith, e.0, status))
    lost_of (Ended (Ends.Excess path line)) why (inl e) status = absurd (omega (arith, e.0, status))
    lost_of (Refused reason place) why (inl e) status = absurd (omega (arith, e.0, status))
    lost_of (Words k) why (inl e) status = absurd (omega (arith, e.0, status))
    lost_of ReadFault why (inl e) status = absurd (omega (arith, e.0, status))
    lost_of NoMemory why (inl e) status = absurd (omega (arith, e.0, status))
    lost_of outcome why (inr (inl e)) status = absurd (omega (arith, e.0, status))
    lost_of outcome why (inr (inr e)) status = absurd (omega (arith, e.0, status))
