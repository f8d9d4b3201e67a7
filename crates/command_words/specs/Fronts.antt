-- The forms of words, one word after another. (This project's own rule.)
use Rattle.std.specs.Prelude.{◌≡◌, ◌≢◌, ◌⊎◌, ℕ, ◌^◌, ◌-◌, ◌<◌, List, [], ◌∷◌, ◌++◌, codes, Option, Some, None}
use Rattle.command_words.specs.Numbers.{IsNumber, IsPairs}
use Rattle.command_words.specs.Given.{HasGiven}
use Rattle.command_words.specs.Words.{texts, IsStateWord, IsFrom, IsJob, job_of, job_verb, job_words, lang_word, from_words, IsNameBehind, AreNamesBehind, claim_of, claim_verb, claim_files, claim_words, IsClaim}
use Rattle.command_words.specs.declared.request.Lang.{Lang}
use Rattle.command_words.specs.declared.fronts.Head.{Head}
use Rattle.command_words.specs.declared.fronts.StateFront.{StateFront}
use Rattle.command_words.specs.declared.fronts.Front.{Front}
use Rattle.command_words.specs.declared.words.Start.{Start}
use Rattle.command_words.specs.declared.claims.ClaimFront.{ClaimFront}
use Rattle.command_words.specs.declared.claims.CarryFront.{CarryFront}
use Rattle.command_words.specs.declared.claims.NameFront.{NameFront}

-- a word of one kind, and then others that it has a say in
abbrev pub Then : (List ℕ → Type 0) → (List ℕ → List (List ℕ) → Type 0) → List (List ℕ) → Type 0
Then Word Rest [] = ⊥
Then Word Rest (w ∷ ws) = Word w × Rest w ws

-- a word of one kind, and then the others
abbrev pub One : (List ℕ → Type 0) → (List (List ℕ) → Type 0) → List (List ℕ) → Type 0
One Word Rest ws = Then Word (λ w. Rest) ws

abbrev pub Fixed : List ℕ → (List (List ℕ) → Type 0) → List (List ℕ) → Type 0
Fixed v Rest ws = One (λ w. w ≡ v) Rest ws

-- ---- kinds of words
abbrev pub IsLangWord : List ℕ → Type 0
IsLangWord w = (l : Lang) × (w ≡ lang_word l)

abbrev pub IsFileName : List ℕ → Type 0
IsFileName w = w ≢ []

abbrev pub IsPairsWord : List ℕ → Type 0
IsPairsWord w = (ps : List (ℕ × ℕ)) × IsPairs w ps

abbrev pub IsSeedWord : List ℕ → Type 0
IsSeedWord w = (n : ℕ) × IsNumber (2 ^ 64 - 1) w n

abbrev pub IsStepsWord : List ℕ → Type 0
IsStepsWord w = (n : ℕ) × IsNumber 1000000 w n

abbrev pub IsModulesWord : List ℕ → Type 0
IsModulesWord w = (n : ℕ) × (0 < n) × IsNumber 1000 w n

-- ---- forms of words, each from where the last begins
-- behind `generate`
abbrev pub GenerateForm : List (List ℕ) → Type 0
GenerateForm ws = One IsModulesWord (λ vs. vs ≡ []) ws

-- behind `given`, and behind `seed`
abbrev pub GivenForm : List (List ℕ) → Type 0
GivenForm ws = One IsPairsWord HasGiven ws

abbrev pub SeedForm : List (List ℕ) → Type 0
SeedForm ws = One IsSeedWord (One IsStepsWord HasGiven) ws

-- behind `from STATE`
abbrev pub WayForm : List (List ℕ) → Type 0
WayForm ws = Fixed (codes "given") GivenForm ws ⊎ Fixed (codes "seed") SeedForm ws

-- behind `simulate LANG FILE`
abbrev pub FromForm : List (List ℕ) → Type 0
FromForm ws = One IsStateWord WayForm ws

abbrev pub WalkForm : List (List ℕ) → Type 0
WalkForm ws = WayForm ws ⊎ Fixed (codes "from") FromForm ws

-- behind `show LANG FILE`
abbrev pub StateForm : List (List ℕ) → Type 0
StateForm ws = One IsStateWord HasGiven ws

-- behind `check-path LANG FILE` and `carry-path LANG FILE`, and behind `check-rows LANG FILE`
abbrev pub PathForm : List ℕ → List (List ℕ) → Type 0
PathForm file ws = One (IsNameBehind (file ∷ [])) HasGiven ws

abbrev pub RowsForm : List ℕ → List (List ℕ) → Type 0
RowsForm file ws = Then (IsNameBehind (file ∷ [])) (λ states. One (IsNameBehind (file ∷ states ∷ [])) HasGiven) ws

-- behind `check-bound LANG FILE`, and behind the words of files before LABEL
abbrev pub LabelForm : List (List ℕ) → List (List ℕ) → Type 0
LabelForm before ws = One (IsNameBehind []) (One (IsNameBehind before) HasGiven) ws

abbrev pub BoundsForm : List ℕ → List (List ℕ) → Type 0
BoundsForm file ws = Then (IsNameBehind (file ∷ [])) (λ states. Then (IsNameBehind (file ∷ states ∷ [])) (λ rows. LabelForm (file ∷ states ∷ rows ∷ []))) ws

-- behind the first word: a language, the word of a file, and then others that it has a say in
abbrev pub HeadForm : (List ℕ → List (List ℕ) → Type 0) → List (List ℕ) → Type 0
HeadForm Rest ws = One IsLangWord (Then IsFileName Rest) ws

-- behind `show`, and behind `simulate`
abbrev pub ShowForm : List (List ℕ) → Type 0
ShowForm ws = HeadForm (λ file. StateForm) ws

abbrev pub SimulateForm : List (List ℕ) → Type 0
SimulateForm ws = HeadForm (λ file. WalkForm) ws

-- behind `specialise`
abbrev pub SpecialiseForm : List (List ℕ) → Type 0
SpecialiseForm ws = HeadForm (λ file. HasGiven) ws

-- a first word that none of the forms without a process begins with
abbrev pub IsOfProcess : List ℕ → Type 0
IsOfProcess verb = (verb ≢ codes "to-jani") × (verb ≢ codes "to-prism") × (verb ≢ codes "to-prism-props") × (verb ≢ codes "check") × (verb ≢ codes "generate")

-- ---- what is read of words
-- the language that a word names
abbrev pub ReadsLang : List ℕ → Option Lang → Type 0
ReadsLang w (Some l) = w ≡ lang_word l
ReadsLang w None = IsLangWord w → ⊥

-- LANG FILE, and what stands behind
pub record IsHead (ws : List (List ℕ)) (h : Head) : Type 0 where
  pub name : IsFileName h.file.now
  pub words_are : ws ≡ lang_word h.lang ∷ h.file.now ∷ texts h.rest.now

-- The k-th word is no language or no name of a file, or it is missing.
abbrev pub IsHeadWrong : List (List ℕ) → ℕ → Type 0
IsHeadWrong [] k = k ≡ 1
IsHeadWrong (l ∷ []) k = ((k ≡ 1) × (IsLangWord l → ⊥)) ⊎ ((k ≡ 2) × IsLangWord l)
IsHeadWrong (l ∷ f ∷ ws) k = ((k ≡ 1) × (IsLangWord l → ⊥)) ⊎ ((k ≡ 2) × IsLangWord l × (f ≡ []))

-- STATE, and what stands behind; or the first word is no state, or is missing
pub record IsStateFront (ws : List (List ℕ)) (s : StateFront) : Type 0 where
  pub state : IsStateWord s.state.now
  pub words_are : ws ≡ s.state.now ∷ texts s.rest.now

abbrev pub IsStateWrong : List (List ℕ) → Type 0
IsStateWrong [] = Unit {0}
IsStateWrong (w ∷ ws) = IsStateWord w → ⊥

abbrev pub ReadsState : List (List ℕ) → Option StateFront → Type 0
ReadsState ws (Some s) = IsStateFront ws s
ReadsState ws None = IsStateWrong ws

-- The words of a job, where `from STATE` may stand before them, and what stands behind these.
pub record IsFront (verb : List ℕ) (from : Option (List ℕ)) (ws : List (List ℕ)) (f : Front) : Type 0 where
  pub job : IsFrom from → IsJob (job_of f.job)
  pub verb_is : job_verb (job_of f.job) ≡ verb
  pub words_are : from_words from ++ ws ≡ job_words (job_of f.job) ++ texts f.rest.now

-- the word of a file other than these, and what stands behind; or the first word is none, or is missing
pub record IsNameFront (before ws : List (List ℕ)) (n : NameFront) : Type 0 where
  pub name : IsNameBehind before n.name.now
  pub words_are : ws ≡ n.name.now ∷ texts n.rest.now

abbrev pub IsNameWrong : List (List ℕ) → List (List ℕ) → Type 0
IsNameWrong before [] = Unit {0}
IsNameWrong before (w ∷ ws) = IsNameBehind before w → ⊥

abbrev pub ReadsName : List (List ℕ) → List (List ℕ) → Option NameFront → Type 0
ReadsName before ws (Some n) = IsNameFront before ws n
ReadsName before ws None = IsNameWrong before ws

-- A claim about the process of a file, and what stands behind it.
pub record IsClaimFront (ws : List (List ℕ)) (c : ClaimFront) : Type 0 where
  pub names : AreNamesBehind [] (c.file.now ∷ claim_files (claim_of c.claim))
  pub claim : IsClaim (claim_of c.claim)
  pub words_are : ws ≡ claim_verb (claim_of c.claim) ∷ lang_word c.lang ∷ c.file.now ∷ (claim_words (claim_of c.claim) ++ texts c.rest.now)

-- A path that is carried, and what stands behind it.
pub record IsCarryFront (ws : List (List ℕ)) (c : CarryFront) : Type 0 where
  pub names : AreNamesBehind [] (c.file.now ∷ c.path.now ∷ [])
  pub words_are : ws ≡ codes "carry-path" ∷ lang_word c.lang ∷ c.file.now ∷ c.path.now ∷ texts c.rest.now

-- A file that is specialised, and what stands behind it.
pub record IsSpecialiseHead (ws : List (List ℕ)) (h : Head) : Type 0 where
  pub name : IsFileName h.file.now
  pub words_are : ws ≡ codes "specialise" ∷ lang_word h.lang ∷ h.file.now ∷ texts h.rest.now

-- all words before those of the constants, and what stands behind them
pub record IsStart (ws : List (List ℕ)) (s : Start) : Type 0 where
  pub name : IsFileName s.file.now
  pub job : IsJob (job_of s.front.job)
  pub words_are : ws ≡ job_verb (job_of s.front.job) ∷ lang_word s.lang ∷ s.file.now ∷ (job_words (job_of s.front.job) ++ texts s.front.rest.now)
