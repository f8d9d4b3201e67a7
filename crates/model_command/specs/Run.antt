-- How a run ends, why, and what it then wrote.
-- (This project's own rule.)
use Rattle.std.specs.Prelude.{◌≡◌, ◌⊎◌, ℕ, ◌+◌, ◌≤◌, List, [], ◌∷◌, ◌++◌, length, map, Option, Some, codes, slice_get, Result, Ok, Err}
use Rattle.std.specs.Borrow.{Bor}
use Rattle.std.specs.Io.KnownBytes.{Appends}
use Rattle.bridge_io.specs.Outside.{HasFailed, Lefts, Takes, IsSpent, AppendsFront}
use Rattle.bridge_io.specs.ReadFail.{IsTooLong}
use Rattle.bridge_io.specs.declared.transfer.ReadFail.TheVariants.{TooLong as TooLongAt}
use Rattle.bridge_io.specs.declared.reason.Reason.{Reason}
use Rattle.bridge_io.specs.declared.reason.Reason.TheVariants.{TooLong}
use Rattle.bridge_io.specs.declared.reason.Fault.{Fault}
use Rattle.bridge_io.specs.declared.place.Place.{Place}
use Rattle.command_words.specs.declared.request.Task.{Task}
use Rattle.command_words.specs.Words.{Request, Walking, Checking, Carrying, Specialising, on_file, with_properties, generate, walk, check, carry, specialise, files_of, word_count, IsRequest, IsWrongAt}
use Rattle.model_command.specs.Tasks.{Makes, IsLeastFor}
use Rattle.model_files.specs.PrismFile.{IsPrismFault}
use Rattle.model_translation.specs.WithProperties.{TranslatesWith, IsPropertiesFault}
use Rattle.model_translation.specs.declared.properties.FilesRefused.{FilesRefused}
use Rattle.model_translation.specs.declared.properties.FilesRefused.TheVariants as files
use Rattle.model_process.specs.Models.{IsModelFault}
use Rattle.model_process.specs.Walks.{EndsOnBytes}
use Rattle.model_process.specs.Claims.{EndsOnFiles, IsFileFault}
use Rattle.model_process.specs.declared.ending.Ending.{Ending}
use Rattle.model_process.specs.declared.judging.ClaimRefused.{ClaimRefused}
use Rattle.model_process.specs.declared.judging.ClaimRefused.TheVariants as claim
use Rattle.model_carrying.specs.Ends.{EndsOnCarryFiles, IsCarryFileFault}
use Rattle.model_specialising.specs.Ends.{EndsOnSpecialise}
use Rattle.model_command.specs.Generating.{IsGenerated}
use Rattle.model_command.specs.Outcome.{status_of, line_of, text_of, place_in}
use Rattle.model_command.specs.declared.outcome.Outcome.{Outcome}
use Rattle.model_command.specs.declared.outcome.Outcome.TheVariants.{Done, Ended, Refused, Words, ReadFault, NoMemory}

-- ---- what is seen of the shelf and of a sink, before a run and after it
-- What is left under each name, and how often a read has failed; and of which names no read fails.
pub record ShelfSides : Type 1 where
  pub left : Option Lefts
  pub left_after : Option Lefts
  pub faults : ℕ
  pub faults_after : ℕ
  pub steady : List ℕ → Type 0

-- what was taken, and how often a write has failed
pub record SinkSides : Type 0 where
  pub taken : Option (List ℕ)
  pub taken_after : Option (List ℕ)
  pub faults : ℕ
  pub faults_after : ℕ

-- of a shelf that was old and is new, by what is seen of each
abbrev pub shelf_sides : {S : Type 0} → (S → Option Lefts) → (S → ℕ) → (S → List ℕ → Type 0) → S → S → ShelfSides
shelf_sides left faults steady old new = record {
  left = left old;
  left_after = left new;
  faults = faults old;
  faults_after = faults new;
  steady = steady old;
}

-- the same of a sink
abbrev pub sink_sides : {S : Type 0} → (S → Option (List ℕ)) → (S → ℕ) → S → S → SinkSides
sink_sides taken faults old new = record { taken = taken old; taken_after = taken new; faults = faults old; faults_after = faults new }

-- ---- what is read
-- The whole file under the name was read: these bytes.
pub record IsReadWhole (before after : Option Lefts) (name bytes : List ℕ) : Type 0 where
  pub takes : Takes before after name bytes
  pub spent : IsSpent after name
  pub within : length bytes ≤ 16777216

-- names as texts
abbrev pub names_of : List (Bor (List ℕ)) → List (List ℕ)
names_of names = map (λ s. s.now) names

-- The whole files under the names were read one after another: these contents.
abbrev pub AreWhole : Option Lefts → Option Lefts → List (List ℕ) → List (List ℕ) → Type 0
AreWhole before after [] [] = after ≡ before
AreWhole before after (name ∷ names) (bytes ∷ contents) = (mid : Option Lefts) × IsReadWhole before mid name bytes × AreWhole mid after names contents
AreWhole before after [] (bytes ∷ contents) = ⊥
AreWhole before after (name ∷ names) [] = ⊥

-- Reading comes to this name: the files before it were read whole.
pub record ComesTo (before mid : Option Lefts) (names : List (List ℕ)) (name : List ℕ) : Type 0 where
  pub front : List (List ℕ)
  pub back : List (List ℕ)
  pub among : names ≡ front ++ name ∷ back
  pub contents : List (List ℕ)
  pub read : AreWhole before mid front contents

-- ---- how a request ends
-- the position behind the words that ask for it
abbrev pub IsNext : Request → ℕ → Type 0
IsNext request next = next ≡ word_count request + 1

-- how a task ends on the bytes of its file; want of memory may come at any time
abbrev pub IsTaskEnd : Task → List ℕ → Outcome → Type 0
IsTaskEnd task bytes (Done text) = Makes task bytes text
IsTaskEnd task bytes (Ended e) = ⊥
IsTaskEnd task bytes (Refused reason place) = (f : Fault) × IsLeastFor task bytes f × (reason ≡ f.reason) × (place ≡ place_in bytes f.at)
IsTaskEnd task bytes (Words k) = ⊥
IsTaskEnd task bytes ReadFault = ⊥
IsTaskEnd task bytes NoMemory = Unit {0}

-- it is refused at a fault of these bytes
abbrev pub IsRefusedAt : List ℕ → Fault → Reason → Place → Type 0
IsRefusedAt bytes f reason place = (reason ≡ f.reason) × (place ≡ place_in bytes f.at)

-- how the translation of a model with its properties ends, on the bytes of both files: it is refused at the file of this name
abbrev pub IsPairEnd : List ℕ → List ℕ → List ℕ → List ℕ → List ℕ → Outcome → Type 0
IsPairEnd file properties model second name (Done text) = TranslatesWith model second text
IsPairEnd file properties model second name (Ended e) = ⊥
IsPairEnd file properties model second name (Refused reason place) =
    ((name ≡ file) × ((f : Fault) × IsPrismFault model f × IsRefusedAt model f reason place))
    ⊎ ((name ≡ properties) × ((f : Fault) × IsPropertiesFault model second f × IsRefusedAt second f reason place))
IsPairEnd file properties model second name (Words k) = ⊥
IsPairEnd file properties model second name ReadFault = ⊥
IsPairEnd file properties model second name NoMemory = Unit {0}

-- how it ends with this answer, and at which file
abbrev pub pair_outcome : List ℕ → List ℕ → Result (List ℕ) FilesRefused → Outcome
pair_outcome model second (Ok text) = Done text
pair_outcome model second (Err (files.Memory e)) = NoMemory
pair_outcome model second (Err (files.Model f)) = Refused f.reason (place_in model f.at)
pair_outcome model second (Err (files.Properties f)) = Refused f.reason (place_in second f.at)

abbrev pub pair_name : List ℕ → List ℕ → Result (List ℕ) FilesRefused → List ℕ
pair_name file properties (Ok text) = file
pair_name file properties (Err (files.Memory e)) = file
pair_name file properties (Err (files.Model f)) = file
pair_name file properties (Err (files.Properties f)) = properties

-- how the generation of a model ends; want of memory may come at any time
abbrev pub IsGenerateEnd : ℕ → Outcome → Type 0
IsGenerateEnd modules (Done text) = IsGenerated modules text
IsGenerateEnd modules (Ended e) = ⊥
IsGenerateEnd modules (Refused reason place) = ⊥
IsGenerateEnd modules (Words k) = ⊥
IsGenerateEnd modules ReadFault = ⊥
IsGenerateEnd modules NoMemory = Unit {0}

-- how a request over one file of these bytes ends: with such an end; or the file is refused for such a fault
abbrev pub IsFileEnd : (Ending → Type 0) → (Fault → Type 0) → List ℕ → Outcome → Type 0
IsFileEnd IsEnding IsFaulty bytes (Done text) = ⊥
IsFileEnd IsEnding IsFaulty bytes (Ended e) = IsEnding e
IsFileEnd IsEnding IsFaulty bytes (Refused reason place) = (f : Fault) × IsFaulty f × (reason ≡ f.reason) × (place ≡ place_in bytes f.at)
IsFileEnd IsEnding IsFaulty bytes (Words k) = ⊥
IsFileEnd IsEnding IsFaulty bytes ReadFault = ⊥
IsFileEnd IsEnding IsFaulty bytes NoMemory = Unit {0}

-- how a state is shown, or a walk ends
abbrev pub IsWalkEnd : Walking → List ℕ → Outcome → Type 0
IsWalkEnd w bytes o = IsFileEnd (EndsOnBytes w.lang w bytes) (IsModelFault w.lang bytes) bytes o

-- how a model is specialised
abbrev pub IsSpecialiseEnd : Specialising → List ℕ → Outcome → Type 0
IsSpecialiseEnd p bytes o = IsFileEnd (EndsOnSpecialise p bytes) (IsModelFault p.lang bytes) bytes o

-- how a request over files of these names and contents ends: with such an end; or it is refused at the file of this name, which has this place
-- among all, for such a fault
abbrev pub IsFilesEnd : (Ending → Type 0) → (ℕ → Fault → Type 0) → List (List ℕ) → List (List ℕ) → List ℕ → Outcome → Type 0
IsFilesEnd IsEnding IsFaulty names contents name (Done text) = ⊥
IsFilesEnd IsEnding IsFaulty names contents name (Ended e) = IsEnding e
IsFilesEnd IsEnding IsFaulty names contents name (Refused reason place) = (i : ℕ) × (bytes : List ℕ) × (f : Fault) × IsFaulty i f
    × (slice_get names i ≡ Some name) × (slice_get contents i ≡ Some bytes) × (reason ≡ f.reason) × (place ≡ place_in bytes f.at)
IsFilesEnd IsEnding IsFaulty names contents name (Words k) = ⊥
IsFilesEnd IsEnding IsFaulty names contents name ReadFault = ⊥
IsFilesEnd IsEnding IsFaulty names contents name NoMemory = Unit {0}

-- how a claim is judged
abbrev pub IsClaimEnd : Checking → List (List ℕ) → List ℕ → Outcome → Type 0
IsClaimEnd c contents name o = IsFilesEnd (EndsOnFiles c contents) (IsFileFault c contents) (files_of (check c)) contents name o

-- how a path is carried
abbrev pub IsCarryEnd : Carrying → List (List ℕ) → List ℕ → Outcome → Type 0
IsCarryEnd c contents name o = IsFilesEnd (EndsOnCarryFiles c contents) (IsCarryFileFault c contents) (files_of (carry c)) contents name o

-- how what was made of files is told: at the first of them, or at the one that is refused
abbrev pub IsToldOfFiles : List (List ℕ) → List (List ℕ) → Result Ending ClaimRefused → List ℕ → Outcome → Type 0
IsToldOfFiles names contents (Ok e) name o = o ≡ Ended e
IsToldOfFiles names contents (Err (claim.Memory e)) name o = o ≡ NoMemory
IsToldOfFiles names contents (Err (claim.At i f)) name o =
    (bytes : List ℕ) × (slice_get names i ≡ Some name) × (slice_get contents i ≡ Some bytes) × (o ≡ Refused f.reason (place_in bytes f.at))

-- of one file
abbrev pub IsAlone : (List ℕ → Type 0) → List (List ℕ) → Type 0
IsAlone Of [] = ⊥
IsAlone Of (bytes ∷ []) = Of bytes
IsAlone Of (bytes ∷ other ∷ contents) = ⊥

-- of two files
abbrev pub IsPair : (List ℕ → List ℕ → Type 0) → List (List ℕ) → Type 0
IsPair Of [] = ⊥
IsPair Of (bytes ∷ []) = ⊥
IsPair Of (bytes ∷ other ∷ []) = Of bytes other
IsPair Of (bytes ∷ other ∷ more ∷ contents) = ⊥

-- how a request ends on the contents of its files, at the one of this name
abbrev pub IsEndOn : Request → List (List ℕ) → List ℕ → Outcome → Type 0
IsEndOn (on_file task file) contents name o = (name ≡ file) × IsAlone (λ bytes. IsTaskEnd task bytes o) contents
IsEndOn (with_properties file properties) contents name o = IsPair (λ model second. IsPairEnd file properties model second name o) contents
IsEndOn (generate modules) contents name o = IsGenerateEnd modules o
IsEndOn (walk w) contents name o = (name ≡ w.file) × IsAlone (λ bytes. IsWalkEnd w bytes o) contents
IsEndOn (check c) contents name o = IsClaimEnd c contents name o
IsEndOn (carry c) contents name o = IsCarryEnd c contents name o
IsEndOn (specialise p) contents name o = (name ≡ p.file) × IsAlone (λ bytes. IsSpecialiseEnd p bytes o) contents

-- it ends so once its files are read whole
abbrev pub IsReadEnd : Request → List ℕ → Option Lefts → Option Lefts → Outcome → Type 0
IsReadEnd request name before after o = (contents : List (List ℕ)) × AreWhole before after (files_of request) contents × IsEndOn request contents name o

-- its file of this name is longer than the limit
abbrev pub IsLongEnd : Request → List ℕ → Option Lefts → Option Lefts → Reason → Place → Type 0
IsLongEnd request name before after reason place =
    (reason ≡ TooLong) × ((mid : Option Lefts) × ComesTo before mid (files_of request) name × IsTooLong mid after name 16777216 (TooLongAt place))

-- its file of this name couldn't be read
abbrev pub IsFaultEnd : ShelfSides → Request → List ℕ → Type 0
IsFaultEnd shelf request name =
    ((mid : Option Lefts) × ComesTo shelf.left mid (files_of request) name) × HasFailed shelf.faults shelf.faults_after × (shelf.steady name → ⊥)

-- why a request ends so, and at which of its files
abbrev pub IsEnd : ShelfSides → Request → List ℕ → Outcome → Type 0
IsEnd shelf request name (Done text) = IsReadEnd request name shelf.left shelf.left_after (Done text)
IsEnd shelf request name (Ended e) = IsReadEnd request name shelf.left shelf.left_after (Ended e)
IsEnd shelf request name (Refused reason place) =
    IsLongEnd request name shelf.left shelf.left_after reason place ⊎ IsReadEnd request name shelf.left shelf.left_after (Refused reason place)
IsEnd shelf request name (Words k) = ⊥
IsEnd shelf request name ReadFault = IsFaultEnd shelf request name
IsEnd shelf request name NoMemory = Unit {0}

-- the words are of no form; want of memory may come at any time
abbrev pub IsByWords : List (List ℕ) → Outcome → Type 0
IsByWords words (Done text) = ⊥
IsByWords words (Ended e) = ⊥
IsByWords words (Refused reason place) = ⊥
IsByWords words (Words k) = IsWrongAt words k
IsByWords words ReadFault = ⊥
IsByWords words NoMemory = Unit {0}

-- why a run of these words ends so, and at which file: the words are of no form, or ask for something that ends so
abbrev pub IsCause : ShelfSides → List (List ℕ) → List ℕ → Outcome → Type 0
IsCause shelf words name o = IsByWords words o ⊎ ((request : Request) × IsRequest words request × IsEnd shelf request name o)

-- ---- what is then written

abbrev pub write_fault_line : List ℕ
write_fault_line = codes "bridge: write fault\n"

-- The texts were written whole, and the status is this one; or a write failed, and the status is 5.
abbrev pub IsDelivered : SinkSides → SinkSides → List ℕ → List ℕ → ℕ → ℕ → Type 0
IsDelivered out err text line status answer =
    ((answer ≡ status) × Appends out.taken out.taken_after text × Appends err.taken err.taken_after line)
    ⊎ ((answer ≡ 5) × HasFailed out.faults out.faults_after × AppendsFront out.taken out.taken_after text × AppendsFront err.taken err.taken_after write_fault_line)
    ⊎ ((answer ≡ 5) × HasFailed err.faults err.faults_after × Appends out.taken out.taken_after text × AppendsFront err.taken err.taken_after line)

-- the same, with the texts and the status of an outcome
abbrev pub EndsWith : SinkSides → SinkSides → List ℕ → Outcome → ℕ → Type 0
EndsWith out err name outcome answer = IsDelivered out err (text_of outcome) (line_of name outcome) (status_of outcome) answer

-- the same, or with the texts and the status of want of memory
abbrev pub EndsWithOrNoMemory : SinkSides → SinkSides → List ℕ → Outcome → ℕ → Type 0
EndsWithOrNoMemory out err name outcome answer = EndsWith out err name outcome answer ⊎ EndsWith out err name NoMemory answer

-- ---- statuses by themselves
-- a request ended so on the whole contents of its files, at the one of this name, and its texts were written
abbrev pub IsCarriedOut : ShelfSides → SinkSides → SinkSides → List (List ℕ) → Outcome → Type 0
IsCarriedOut shelf out err words o =
    (request : Request) × (contents : List (List ℕ)) × (name : List ℕ) × IsRequest words request × AreWhole shelf.left shelf.left_after (files_of request) contents
    × IsEndOn request contents name o × Appends out.taken out.taken_after (text_of o) × Appends err.taken err.taken_after (line_of name o)

-- A model was generated and told of: its line was written, and no file was read.
pub record IsTold (modules : ℕ) (shelf : ShelfSides) (out err : SinkSides) : Type 0 where
  pub text : List ℕ
  pub generated : IsGenerated modules text
  pub left : shelf.left_after ≡ shelf.left
  pub written : Appends out.taken out.taken_after text
  pub quiet : Appends err.taken err.taken_after []
