-- What is made of files, as it is told: of several at the first of them, or at the one that is refused.
use Rattle.std.proofs.Common.{arith, ◌≡◌, refl, sym, subst, ℕ, zero, suc, ◌<◌, List, [], ◌∷◌, length, slice_index_or, Some, Result, Ok, Err}
use Rattle.std.specs.Borrow.{Bor}
use Rattle.std.specs.Prelude.{slice_get}
use Rattle.bridge_io.specs.declared.reason.Fault.{Fault}
use Rattle.bridge_io.specs.declared.reason.Refused as reading
use Rattle.bridge_io.specs.declared.reason.Refused.TheVariants as R
use Rattle.command_words.specs.declared.request.Lang.{Lang}
use Rattle.command_words.specs.Words.{Walking, Checking, Carrying, Specialising, check, carry, files_of}
use Rattle.model_process.specs.Claims.{JudgesOn}
use Rattle.model_process.specs.Models.{IsModelFault}
use Rattle.model_process.specs.Walks.{WalksOn}
use Rattle.model_process.specs.declared.ending.Ending.{Ending}
use Rattle.model_process.specs.declared.judging.ClaimRefused.{ClaimRefused}
use Rattle.model_process.specs.declared.judging.ClaimRefused.TheVariants.{Memory, At}
use Rattle.model_process.proofs.Within.{fault_within}
use Rattle.model_carrying.specs.Ends.{CarriesOn, IsCarryFileFault}
use Rattle.model_specialising.specs.Ends.{EndsIn, SpecialisesIn, SpecialisesOn}
use Rattle.model_command.specs.Outcome.{ended_by, place_in}
use Rattle.model_command.specs.Run.{IsCarryEnd, IsClaimEnd, IsFileEnd, IsSpecialiseEnd, IsToldOfFiles, IsWalkEnd, names_of}
use Rattle.model_command.specs.declared.outcome.Outcome.{Outcome}
use Rattle.model_command.specs.declared.outcome.Outcome.TheVariants.{Refused}

-- ---- files, by their places
-- the name of the file at a place, and its bytes
named : (names : List (Bor (List ℕ))) (i : ℕ) (d : Bor (List ℕ)) → i < length names → slice_get (names_of names) i ≡ Some (slice_index_or names i d).now
named [] i d l = absurd (omega (arith, l))
named (name ∷ names) zero d l = refl
named (name ∷ names) (suc i) d l = named names i d (omega (arith, l))

held : (files : List (List ℕ)) (i : ℕ) (x : List ℕ) → i < length files → x ≡ slice_index_or files i x → slice_get files i ≡ Some x
held [] i x l e = absurd (omega (arith, l))
held (file ∷ files) zero x l e = let s : file ≡ x = sym e in cc
held (file ∷ files) (suc i) x l e = held files i x (omega (arith, l)) e

-- there is a first one
pub some_named : (names : List (Bor (List ℕ))) (file : List ℕ) (others : List (List ℕ)) → names_of names ≡ file ∷ others → 0 < length names
some_named [] file others e = absurd cc
some_named (name ∷ names) file others e = omega arith

pub two_named : (names : List (Bor (List ℕ))) (file second : List ℕ) → names_of names ≡ file ∷ second ∷ [] → length names ≡ 2
two_named [] file second e = absurd cc
two_named (x ∷ []) file second e = absurd cc
two_named (x ∷ y ∷ []) file second e = refl
two_named (x ∷ y ∷ z ∷ names) file second e = absurd cc

-- one that is refused is one of them
pub claim_within : (c : Checking) (files : List (List ℕ)) (made : Result Ending ClaimRefused) → JudgesOn c files made → (i : ℕ) (f : Fault) → made ≡ Err (At i f) → i < length files
claim_within c files made h i f e = fault_within c files i f (subst (JudgesOn c files) e h)

carry_fault_within : (c : Carrying) (files : List (List ℕ)) (i : ℕ) (f : Fault) → IsCarryFileFault c files i f → i < length files
carry_fault_within c [] i f h = absurd h
carry_fault_within c (model ∷ []) i f h = absurd h
carry_fault_within c (model ∷ path ∷ []) zero f h = omega arith
carry_fault_within c (model ∷ path ∷ []) (suc zero) f h = omega arith
carry_fault_within c (model ∷ path ∷ []) (suc (suc i)) f h = absurd h
carry_fault_within c (model ∷ path ∷ other ∷ files) i f h = absurd h

pub carry_within : (c : Carrying) (files : List (List ℕ)) (made : Result Ending ClaimRefused) → CarriesOn c files made → (i : ℕ) (f : Fault) → made ≡ Err (At i f) → i < length files
carry_within c files made h i f e = carry_fault_within c files i f (subst (CarriesOn c files) e h)

-- ---- what is told of them
pub refused_at_file : (files : List (List ℕ)) (names : List (Bor (List ℕ))) (made : Result Ending ClaimRefused) (i : ℕ) (f : Fault) (d : Bor (List ℕ)) (bytes x : List ℕ) (o : Outcome) → made ≡ Err (At i f) → i < length files →
    length files ≡ length names → bytes ≡ x → x ≡ slice_index_or files i x → o ≡ Refused f.reason (place_in bytes f.at) → IsToldOfFiles (names_of names) files made (slice_index_or names i d).now o
refused_at_file files names made i f d bytes x o m l many same is e =
    subst (λ r. IsToldOfFiles (names_of names) files r (slice_index_or names i d).now o) (sym m)
    (bytes, named names i d (omega (arith, l, many)), subst (λ b. slice_get files i ≡ Some b) (sym same) (held files i x l is), e)

-- so the request ends
pub claim_told : (c : Checking) (files : List (List ℕ)) (name : List ℕ) (made : Result Ending ClaimRefused) (o : Outcome) → JudgesOn c files made → IsToldOfFiles (files_of (check c)) files made name o → IsClaimEnd c files name o
claim_told c files name (Ok e) o h t = subst (IsClaimEnd c files name) (sym t) h
claim_told c files name (Err (Memory e)) o h t = subst (IsClaimEnd c files name) (sym t) tt
claim_told c files name (Err (At i f)) o h t = subst (IsClaimEnd c files name) (sym t.3) (i, t.0, f, h, t.1, t.2, refl, refl)

pub carry_told : (c : Carrying) (files : List (List ℕ)) (name : List ℕ) (made : Result Ending ClaimRefused) (o : Outcome) → CarriesOn c files made → IsToldOfFiles (files_of (carry c)) files made name o → IsCarryEnd c files name o
carry_told c files name (Ok e) o h t = subst (IsCarryEnd c files name) (sym t) h
carry_told c files name (Err (Memory e)) o h t = subst (IsCarryEnd c files name) (sym t) tt
carry_told c files name (Err (At i f)) o h t = subst (IsCarryEnd c files name) (sym t.3) (i, t.0, f, h, t.1, t.2, refl, refl)

-- ---- of one file
pub walk_told : (w : Walking) (bytes : List ℕ) (made : Result Ending reading.Refused) → WalksOn w.lang w bytes made → IsWalkEnd w bytes (ended_by bytes made)
walk_told w bytes (Ok e) h = h
walk_told w bytes (Err (R.Memory e)) h = tt
walk_told w bytes (Err (R.At f)) h = (f, h, refl, refl)

pub specialise_told : (p : Specialising) (bytes : List ℕ) (made : Result Ending reading.Refused) → SpecialisesOn p bytes made → IsSpecialiseEnd p bytes (ended_by bytes made)
specialise_told p bytes made h = by_lang p.lang made h
  where
    by_lang : (l : Lang) (made : Result Ending reading.Refused) → SpecialisesIn l p.given bytes made → IsFileEnd (EndsIn l p.given bytes) (IsModelFault l bytes) bytes (ended_by bytes made)
    by_lang l (Ok e) h = h
    by_lang l (Err (R.Memory e)) h = tt
    by_lang l (Err (R.At f)) h = (f, h, refl, refl)
