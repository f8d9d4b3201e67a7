-- The forms of the words, and where words leave them.
-- (They are this project's own.)
use Rattle.std.specs.Prelude.{◌≡◌, ◌≢◌, ◌⊎◌, ℕ, ◌+◌, ◌-◌, ◌^◌, ◌<◌, ◌≤◌, List, [], ◌∷◌, ◌++◌, length, take, map, codes, decimal, string_bytes, String, Option, Some, None, option_map, Result, Ok, Err}
use Rattle.std.specs.Global.{Global}
use Rattle.std.specs.List.{AllByRecursion}
use Rattle.command_words.specs.Numbers.{IsSmall, pairs_text}
pub use Rattle.command_words.specs.Given.{Assignment, assignments_of}
use Rattle.command_words.specs.Given.{AreGiven}
use Rattle.command_words.specs.declared.request.Task.{Task}
use Rattle.command_words.specs.declared.request.Task.TheVariants.{ToJani, ToPrism, ToPrismProps, CheckPrism, CheckJani}
use Rattle.command_words.specs.declared.request.Lang.{Lang}
use Rattle.command_words.specs.declared.request.Lang.TheVariants.{Prism, Jani}
use Rattle.command_words.specs.declared.request.Job as code_job
use Rattle.command_words.specs.declared.request.Job.TheVariants as code_job_case
use Rattle.command_words.specs.declared.request.Walking as code_walking
use Rattle.command_words.specs.declared.request.Claim as code_claim
use Rattle.command_words.specs.declared.request.Claim.TheVariants as code_claim_case
use Rattle.command_words.specs.declared.request.Checking as code_checking
use Rattle.command_words.specs.declared.request.Carrying as code_carrying
use Rattle.command_words.specs.declared.request.Specialising as code_specialising
use Rattle.command_words.specs.declared.request.Request as code_request
use Rattle.command_words.specs.declared.request.Request.TheVariants as code_request_case
use Rattle.command_words.specs.declared.request.WordsFail.{WordsFail}
use Rattle.command_words.specs.declared.request.WordsFail.TheVariants.{Memory, At}

-- the words as texts
abbrev pub texts : List (String Global) → List (List ℕ)
texts words = map string_bytes words

-- ---- words of some forms
-- some words of a form begin so
abbrev pub Begins : (List (List ℕ) → Type 0) → List (List ℕ) → Type 0
Begins Form words = (more : List (List ℕ)) × Form (words ++ more)

-- The words up to the k-th begin no form, and those before it do; or the words end too soon, and k is their number
-- plus 1.
abbrev pub IsWrong : (List (List ℕ) → Type 0) → List (List ℕ) → ℕ → Type 0
IsWrong Form words k =
    ((0 < k) × (k ≤ length words) × Begins Form (take (k - 1) words) × (Begins Form (take k words) → ⊥))
    ⊎ ((k ≡ length words + 1) × Begins Form words × (Form words → ⊥))

-- ---- what is asked for
-- what is done with a process: a state is shown, or a walk is taken along pairs of numbers, or along the words of a generator,
-- from the initial state or from one that is named by its text
pub data Job : Type 0 where
  showing : (state : List ℕ) → Job
  along : (from : Option (List ℕ)) (pairs : List (ℕ × ℕ)) → Job
  seeded : (from : Option (List ℕ)) (seed : ℕ) (steps : ℕ) → Job

pub record Walking : Type 0 where
  pub lang : Lang
  pub file : List ℕ
  pub job : Job
  pub given : List Assignment

-- what other files say of a process: this one is a path of it; or these two are its states and its rows; or, over these two,
-- the last has bounds on the probability of reaching the label of this name
pub data Claim : Type 0 where
  of_path : (path : List ℕ) → Claim
  of_rows : (states rows : List ℕ) → Claim
  of_bounds : (states rows label bounds : List ℕ) → Claim

pub record Checking : Type 0 where
  pub lang : Lang
  pub file : List ℕ
  pub claim : Claim
  pub given : List Assignment

-- a path of the process, in this file, is carried to the counterpart of the model in the other language
pub record Carrying : Type 0 where
  pub lang : Lang
  pub file : List ℕ
  pub path : List ℕ
  pub given : List Assignment

-- the model in this file is specialised to the constants that are given
pub record Specialising : Type 0 where
  pub lang : Lang
  pub file : List ℕ
  pub given : List Assignment

pub data Request : Type 0 where
  on_file : (task : Task) (file : List ℕ) → Request
  with_properties : (file properties : List ℕ) → Request
  generate : (modules : ℕ) → Request
  walk : (walking : Walking) → Request
  check : (checking : Checking) → Request
  carry : (carrying : Carrying) → Request
  specialise : (specialising : Specialising) → Request

-- ---- the words of files
abbrev pub claim_files : Claim → List (List ℕ)
claim_files (of_path path) = path ∷ []
claim_files (of_rows states rows) = states ∷ rows ∷ []
claim_files (of_bounds states rows label bounds) = states ∷ rows ∷ bounds ∷ []

-- the file of the model; where one is generated there is none
abbrev pub file_of : Request → List ℕ
file_of (on_file task file) = file
file_of (with_properties file properties) = file
file_of (generate modules) = []
file_of (walk w) = w.file
file_of (check c) = c.file
file_of (carry c) = c.file
file_of (specialise p) = p.file

-- all files, in the order of their words
abbrev pub files_of : Request → List (List ℕ)
files_of (on_file task file) = file ∷ []
files_of (with_properties file properties) = file ∷ properties ∷ []
files_of (generate modules) = []
files_of (walk w) = w.file ∷ []
files_of (check c) = c.file ∷ claim_files c.claim
files_of (carry c) = c.file ∷ c.path ∷ []
files_of (specialise p) = p.file ∷ []

-- a word of a file behind these: it isn't empty, and it is none of them
abbrev pub IsNameBehind : List (List ℕ) → List ℕ → Type 0
IsNameBehind before name = (name ≢ []) × AllByRecursion (λ other. name ≢ other) before

-- words of files behind these
abbrev pub AreNamesBehind : List (List ℕ) → List (List ℕ) → Type 0
AreNamesBehind before [] = Unit {0}
AreNamesBehind before (name ∷ names) = IsNameBehind before name × AreNamesBehind (before ++ name ∷ []) names

-- ---- the forms with a file alone: `to-jani FILE`, `to-prism FILE`, `to-prism-props FILE`, `check prism FILE`, `check jani FILE`
-- the file's word alone
abbrev pub IsFileWord : List (List ℕ) → List ℕ → Type 0
IsFileWord words name = (name ≢ []) × (words ≡ name ∷ [])

abbrev pub HasFileWord : List (List ℕ) → Type 0
HasFileWord words = (name : List ℕ) × IsFileWord words name

-- the words before the file's
abbrev pub verb_of : Task → List (List ℕ)
verb_of ToJani = codes "to-jani" ∷ []
verb_of ToPrism = codes "to-prism" ∷ []
verb_of ToPrismProps = codes "to-prism-props" ∷ []
verb_of CheckPrism = codes "check" ∷ codes "prism" ∷ []
verb_of CheckJani = codes "check" ∷ codes "jani" ∷ []

-- ---- the form with a model and its properties: `to-jani FILE PROPS`
pub record AreWithProperties (words : List (List ℕ)) (file properties : List ℕ) : Type 0 where
  pub names : AreNamesBehind [] (file ∷ properties ∷ [])
  pub words_are : words ≡ codes "to-jani" ∷ file ∷ properties ∷ []

-- ---- the form with a model that is generated: `generate N`
pub record AreGenerate (words : List (List ℕ)) (modules : ℕ) : Type 0 where
  pub some : 0 < modules
  pub few : modules ≤ 1000
  pub words_are : words ≡ codes "generate" ∷ decimal modules ∷ []

-- ---- the forms with a process: `show LANG FILE STATE`, `simulate LANG FILE given N,N,..`, `simulate LANG FILE seed N STEPS`,
-- and `from STATE` before `given` or `seed`; then any number of words NAME=VALUE
abbrev pub lang_word : Lang → List ℕ
lang_word Prism = codes "prism"
lang_word Jani = codes "jani"

-- a word that begins with ( and ends with )
pub record IsStateWord (w : List ℕ) : Type 0 where
  pub inner : List ℕ
  pub word : w ≡ codes "(" ++ (inner ++ codes ")")

abbrev pub IsFrom : Option (List ℕ) → Type 0
IsFrom None = Unit {0}
IsFrom (Some state) = IsStateWord state

abbrev pub from_words : Option (List ℕ) → List (List ℕ)
from_words None = []
from_words (Some state) = codes "from" ∷ state ∷ []

abbrev pub job_verb : Job → List ℕ
job_verb (showing state) = codes "show"
job_verb (along from pairs) = codes "simulate"
job_verb (seeded from seed steps) = codes "simulate"

abbrev pub job_words : Job → List (List ℕ)
job_words (showing state) = state ∷ []
job_words (along from pairs) = from_words from ++ codes "given" ∷ pairs_text pairs ∷ []
job_words (seeded from seed steps) = from_words from ++ codes "seed" ∷ decimal seed ∷ decimal steps ∷ []

-- the words before those of the constants
abbrev pub front_words : Walking → List (List ℕ)
front_words w = job_verb w.job ∷ lang_word w.lang ∷ w.file ∷ job_words w.job

-- a walk is along one pair or more of numbers below 2^32; a seed is below 2^64, and the steps are 1,000,000 at most
abbrev pub IsJob : Job → Type 0
IsJob (showing state) = IsStateWord state
IsJob (along from pairs) = IsFrom from × (pairs ≢ []) × AllByRecursion IsSmall pairs
IsJob (seeded from seed steps) = IsFrom from × (seed < 2 ^ 64) × (steps ≤ 1000000)

pub record IsWalk (words : List (List ℕ)) (w : Walking) : Type 0 where
  pub file : w.file ≢ []
  pub job : IsJob w.job
  pub rest : List (List ℕ)
  pub words_are : words ≡ front_words w ++ rest
  pub given : AreGiven rest w.given

-- ---- the forms with further files: `check-path LANG FILE PATH`, `check-rows LANG FILE STATES ROWS`, `check-bound LANG FILE STATES
-- ROWS LABEL BOUNDS`; then any number of words NAME=VALUE
abbrev pub claim_verb : Claim → List ℕ
claim_verb (of_path path) = codes "check-path"
claim_verb (of_rows states rows) = codes "check-rows"
claim_verb (of_bounds states rows label bounds) = codes "check-bound"

-- the words behind that of the model's file
abbrev pub claim_words : Claim → List (List ℕ)
claim_words (of_path path) = path ∷ []
claim_words (of_rows states rows) = states ∷ rows ∷ []
claim_words (of_bounds states rows label bounds) = states ∷ rows ∷ label ∷ bounds ∷ []

-- a label isn't empty; it may be any other word
abbrev pub IsClaim : Claim → Type 0
IsClaim (of_path path) = Unit {0}
IsClaim (of_rows states rows) = Unit {0}
IsClaim (of_bounds states rows label bounds) = label ≢ []

pub record IsCheck (words : List (List ℕ)) (c : Checking) : Type 0 where
  pub names : AreNamesBehind [] (c.file ∷ claim_files c.claim)
  pub claim : IsClaim c.claim
  pub rest : List (List ℕ)
  pub words_are : words ≡ claim_verb c.claim ∷ lang_word c.lang ∷ c.file ∷ (claim_words c.claim ++ rest)
  pub given : AreGiven rest c.given

-- ---- the form with a path that is carried: `carry-path LANG FILE PATH`; then any number of words NAME=VALUE
pub record IsCarry (words : List (List ℕ)) (c : Carrying) : Type 0 where
  pub names : AreNamesBehind [] (c.file ∷ c.path ∷ [])
  pub rest : List (List ℕ)
  pub words_are : words ≡ codes "carry-path" ∷ lang_word c.lang ∷ c.file ∷ c.path ∷ rest
  pub given : AreGiven rest c.given

-- ---- the form with constants alone: `specialise LANG FILE`; then any number of words NAME=VALUE
pub record IsSpecialise (words : List (List ℕ)) (p : Specialising) : Type 0 where
  pub file : p.file ≢ []
  pub rest : List (List ℕ)
  pub words_are : words ≡ codes "specialise" ∷ lang_word p.lang ∷ p.file ∷ rest
  pub given : AreGiven rest p.given

-- ---- all forms
abbrev pub IsRequest : List (List ℕ) → Request → Type 0
IsRequest words (on_file task name) = (name ≢ []) × (words ≡ verb_of task ++ name ∷ [])
IsRequest words (with_properties file properties) = AreWithProperties words file properties
IsRequest words (generate modules) = AreGenerate words modules
IsRequest words (walk w) = IsWalk words w
IsRequest words (check c) = IsCheck words c
IsRequest words (carry c) = IsCarry words c
IsRequest words (specialise p) = IsSpecialise words p

abbrev pub HasForm : List (List ℕ) → Type 0
HasForm words = (r : Request) × IsRequest words r

-- no form goes on with the k-th word
abbrev pub IsWrongAt : List (List ℕ) → ℕ → Type 0
IsWrongAt words k = IsWrong HasForm words k

-- ---- how many words stand before those of the constants
abbrev pub job_count : Job → ℕ
job_count (showing state) = 1
job_count (along None pairs) = 2
job_count (along (Some state) pairs) = 4
job_count (seeded None seed steps) = 3
job_count (seeded (Some state) seed steps) = 5

abbrev pub words_before : Walking → ℕ
words_before w = 3 + job_count w.job

abbrev pub words_before_given : Checking → ℕ
words_before_given c = 3 + length (claim_words c.claim)

-- how many words ask for it
abbrev pub word_count : Request → ℕ
word_count (on_file task name) = length (verb_of task) + 1
word_count (with_properties file properties) = 3
word_count (generate modules) = 2
word_count (walk w) = words_before w + length w.given
word_count (check c) = words_before_given c + length c.given
word_count (carry c) = 4 + length c.given
word_count (specialise p) = 3 + length p.given

abbrev pub WordsCount : Type 0
WordsCount = (words : List (List ℕ)) (request : Request) → IsRequest words request → length words ≡ word_count request

-- words ask for one thing at most
abbrev pub OneRequest : Type 0
OneRequest = (words : List (List ℕ)) (r s : Request) → IsRequest words r → IsRequest words s → r ≡ s

-- ---- what the code's types stand for
abbrev pub job_of : code_job.Job → Job
job_of (code_job_case.Show state) = showing state.now
job_of (code_job_case.Given from pairs) = along (option_map (λ s. s.now) from) pairs
job_of (code_job_case.Seed from seed steps) = seeded (option_map (λ s. s.now) from) seed steps

abbrev pub walking_of : code_walking.Walking → Walking
walking_of w = record { lang = w.lang; file = w.file.now; job = job_of w.job; given = assignments_of w.given }

abbrev pub claim_of : code_claim.Claim → Claim
claim_of (code_claim_case.Path path) = of_path path.now
claim_of (code_claim_case.Rows states rows) = of_rows states.now rows.now
claim_of (code_claim_case.Bounds states rows label bounds) = of_bounds states.now rows.now label.now bounds.now

abbrev pub checking_of : code_checking.Checking → Checking
checking_of c = record { lang = c.lang; file = c.file.now; claim = claim_of c.claim; given = assignments_of c.given }

abbrev pub carrying_of : code_carrying.Carrying → Carrying
carrying_of c = record { lang = c.lang; file = c.file.now; path = c.path.now; given = assignments_of c.given }

abbrev pub specialising_of : code_specialising.Specialising → Specialising
specialising_of p = record { lang = p.lang; file = p.file.now; given = assignments_of p.given }

abbrev pub request_of : code_request.Request → Request
request_of (code_request_case.OnFile task file) = on_file task file.now
request_of (code_request_case.WithProperties file properties) = with_properties file.now properties.now
request_of (code_request_case.Generate modules) = generate modules
request_of (code_request_case.Walk w) = walk (walking_of w)
request_of (code_request_case.Check c) = check (checking_of c)
request_of (code_request_case.Carry c) = carry (carrying_of c)
request_of (code_request_case.Specialise p) = specialise (specialising_of p)

-- what is answered: what the words ask for, or where they leave every form
abbrev pub AnswersWords : {X : Type 0} → (X → Type 0) → (List (List ℕ) → Type 0) → List (List ℕ) → Result X WordsFail → Type 0
AnswersWords Is Form words (Ok r) = Is r
AnswersWords Is Form words (Err (Memory e)) = Unit {0}
AnswersWords Is Form words (Err (At k)) = IsWrong Form words k
