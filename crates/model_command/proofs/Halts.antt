-- Files are read one after another until one can't be.
use Rattle.std.proofs.Common.{arith, ◌≡◌, ◌∙◌, refl, ap, subst, ℕ, zero, suc, ◌+◌, ◌<◌, ◌≤◌, List, [], ◌∷◌, ◌++◌, length, take, drop, slice_index_or, Option, inl}
use Rattle.std.proofs.lemmas.Grind.{common_steps}
use Rattle.std.specs.Borrow.{Bor}
use Rattle.bridge_io.specs.Outside.{HasFailed, Lefts}
use Rattle.bridge_io.specs.ReadFail.{IsTooLong}
use Rattle.bridge_io.specs.declared.transfer.ReadFail.{ReadFail}
use Rattle.bridge_io.specs.declared.transfer.ReadFail.TheVariants.{Memory, Fault, TooLong}
use Rattle.command_words.specs.Words.{Request, files_of}
use Rattle.model_command.specs.Outcome.{halted}
use Rattle.model_command.specs.Reading.{IsHalt, IsHaltAt}
use Rattle.model_command.specs.Run.{AreWhole, ComesTo, IsEnd, names_of, ShelfSides}
use Rattle.model_command.specs.declared.reading.Halt.{Halt}

module _ (d : Bor (List ℕ)) where
  split_at : (names : List (Bor (List ℕ))) (i : ℕ) → i < length names → names_of names ≡ names_of (take i names) ++ (slice_index_or names i d).now ∷ names_of (drop (suc i) names)
  split_at [] i lt = absurd (omega (arith, lt))
  split_at (x ∷ names) zero lt = refl
  split_at (x ∷ names) (suc i) lt = ap (λ l. x.now ∷ l) (split_at names i (omega (arith, lt)))

  pub one_more_name : (names : List (Bor (List ℕ))) (i : ℕ) → i < length names → names_of (take (i + 1) names) ≡ names_of (take i names) ++ (slice_index_or names i d).now ∷ []
  one_more_name [] i lt = absurd (omega (arith, lt))
  one_more_name (x ∷ names) zero lt = refl
  one_more_name (x ∷ names) (suc i) lt =
      let e : suc i + 1 ≡ suc (i + 1) = omega arith in
      ap (λ n. names_of (take n (x ∷ names))) e ∙ ap (λ l. x.now ∷ l) (one_more_name names i (omega (arith, lt)))

  pub comes_at : (before mid : Option Lefts) (names : List (Bor (List ℕ))) (i : ℕ) (contents : List (List ℕ)) → i < length names → AreWhole before mid (names_of (take i names)) contents →
      ComesTo before mid (names_of names) (slice_index_or names i d).now
  comes_at before mid names i contents lt w =
      record { front = names_of (take i names); back = names_of (drop (suc i) names); among = split_at names i lt; contents = contents; read = w }

failed_since : (a b n : ℕ) → a ≤ b → HasFailed b n → HasFailed a n
failed_since a b n le h = grind (arith, common_steps)

module _ (shelf : ShelfSides) where
  -- mid, count and steady_now are seen of it before the file of this name
  pub halts_at : (mid : Option Lefts) (count : ℕ) (steady_now : List ℕ → Type 0) (name : List ℕ) → shelf.faults ≤ count → ((other : List ℕ) → shelf.steady other → steady_now other) →
      (fail : ReadFail) → IsTooLong mid shelf.left_after name 16777216 fail → (fail ≡ Fault → HasFailed count shelf.faults_after) → (fail ≡ Fault → steady_now name → ⊥) → IsHaltAt shelf mid name fail
  halts_at mid count steady_now name le keeps (Memory e) long fault unsteady = tt
  halts_at mid count steady_now name le keeps Fault long fault unsteady = (failed_since shelf.faults count shelf.faults_after le (fault refl), λ s. unsteady refl (keeps name s))
  halts_at mid count steady_now name le keeps (TooLong place) long fault unsteady = long

  -- how a request ends then
  ends_at : (request : Request) (name : List ℕ) (mid : Option Lefts) → ComesTo shelf.left mid (files_of request) name → (fail : ReadFail) → IsHaltAt shelf mid name fail → IsEnd shelf request name (halted fail)
  ends_at request name mid comes (Memory e) h = tt
  ends_at request name mid comes Fault h = ((mid, comes), h.0, h.1)
  ends_at request name mid comes (TooLong place) h = inl (refl, (mid, comes, h))

  pub halted_end : (request : Request) (names : List (List ℕ)) (h : Halt) → names ≡ files_of request → IsHalt shelf names h → IsEnd shelf request h.name.now (halted h.fail)
  halted_end request names h same k = ends_at request h.name.now k.0 (subst (λ ns. ComesTo shelf.left k.0 ns h.name.now) same k.1) h.fail k.2
