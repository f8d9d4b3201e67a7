-- The forms of files of states, rows, paths and bounds. (This project's own.)
use Rattle.std.specs.Prelude.{◌≤◌, ◌≡◌, ℕ, ◌<◌, List, [], ◌∷◌, ◌++◌, ◌⊎◌, map, ◌&&◌, false, Option, Some, None, Result, Ok, Err, nat_eq, length, Vec}
use Rattle.std.specs.Global.{Global}
use Rattle.std.specs.List.{list_any}
use Rattle.bridge_io.specs.declared.reason.Reason.TheVariants.{RowSyntax}
use Rattle.bridge_io.specs.declared.reason.Refused.{Refused}
use Rattle.bridge_io.specs.declared.reason.Refused.TheVariants as R
use Rattle.frac_core.specs.Fraction.{Fraction}
use Rattle.process_core.specs.Ready.{Name}
use Rattle.process_core.specs.Steps.{Process}
use Rattle.process_core.specs.declared.data.State.{State}
use Rattle.process_texts.specs.Texts.{header_text}
use Rattle.row_check.specs.declared.data.Row.{Row}
use Rattle.row_check.specs.declared.data.ReadRows.{ReadRows}
use Rattle.row_check.specs.declared.data.ReadPath.{ReadPath}
use Rattle.row_check.specs.declared.data.PathStep.{PathStep}
use Rattle.row_check.specs.declared.data.Counts.{Counts}
use Rattle.row_check.specs.Lines.{Line, Hold, BreakAt, lines, lines_at, AreRead, AreReadAs, AreReadBehind}
use Rattle.row_check.specs.Texts.{IsNumber, IsStateText, IsNameText, IsProbability}
use Rattle.row_check.specs.Rows.{same_choice, Follows}

-- the header of the process
abbrev pub IsHeader : Process → List ℕ → Unit {0} → Type 0
IsHeader p text u = text ≡ header_text p.columns

-- ---- files of states
-- `i:` and a state, i being the number of states before
pub record IsStateLine (before : List State) (text : List ℕ) (s : State) : Type 0 where
  pub number : List ℕ
  pub state : List ℕ
  pub parts : text ≡ number ++ 58 ∷ state
  pub counts : IsNumber number (length before)
  pub state_is : IsStateText state s

-- ---- files of rows
-- nothing, or a space and a label
abbrev pub IsLabelPart : List ℕ → Option Name → Type 0
IsLabelPart text None = text ≡ []
IsLabelPart text (Some name) = (label : List ℕ) × (text ≡ 32 ∷ label) × IsNameText label name

-- a row may come after these: it is the first of choice 0, or follows the last
abbrev pub MayFollow : List Row → Row → Type 0
MayFollow [] r = r.choice ≡ 0
MayFollow (q ∷ []) r = Follows q r
MayFollow (q ∷ p ∷ qs) r = MayFollow (p ∷ qs) r

-- and its source is listed, and no row before it has its source, choice and target
pub record MayCome (n : ℕ) (before : List Row) (r : Row) : Type 0 where
  pub source : r.source < n
  pub order : MayFollow before r
  pub new : list_any (λ q. same_choice q r && nat_eq q.target r.target) before ≡ false

-- three numbers, each with a space behind it, and the rest
pub record IsNumbered (text : List ℕ) (source choice target : ℕ) (rest : List ℕ) : Type 0 where
  pub source_text : List ℕ
  pub choice_text : List ℕ
  pub target_text : List ℕ
  pub parts : text ≡ source_text ++ 32 ∷ (choice_text ++ 32 ∷ (target_text ++ 32 ∷ rest))
  pub source_is : IsNumber source_text source
  pub choice_is : IsNumber choice_text choice
  pub target_is : IsNumber target_text target

-- `source choice target probability`, and maybe a label
pub record IsRowText (text : List ℕ) (r : Row) : Type 0 where
  pub weight : List ℕ
  pub label : List ℕ
  pub numbers : IsNumbered text r.source r.choice r.target (weight ++ label)
  pub weight_apart : list_any (nat_eq 32) weight ≡ false
  pub weight_is : IsProbability weight r.weight
  pub label_is : IsLabelPart label r.label

-- a row of one of `n` states, after these
pub record IsRowLine (n : ℕ) (before : List Row) (text : List ℕ) (r : Row) : Type 0 where
  pub row : IsRowText text r
  pub may_come : MayCome n before r

-- the first line of a file of rows
pub record IsCounts (text : List ℕ) (c : Counts) : Type 0 where
  pub states : List ℕ
  pub choices : List ℕ
  pub transitions : List ℕ
  pub parts : text ≡ states ++ 32 ∷ (choices ++ 32 ∷ transitions)
  pub states_are : IsNumber states c.states
  pub choices_are : IsNumber choices c.choices
  pub transitions_are : IsNumber transitions c.transitions

-- ---- files of paths
-- `-` or a label
abbrev pub IsStepLabel : List ℕ → Option Name → Type 0
IsStepLabel text None = text ≡ 45 ∷ []
IsStepLabel text (Some name) = (text ≡ 45 ∷ [] → ⊥) × IsNameText text name

-- the state is all after the last space
pub record IsStepLine (before : List PathStep) (text : List ℕ) (step : PathStep) : Type 0 where
  pub label : List ℕ
  pub state : List ℕ
  pub parts : text ≡ label ++ 32 ∷ state
  pub last : list_any (nat_eq 32) state ≡ false
  pub label_is : IsStepLabel label step.label
  pub state_is : IsStateText state step.state

-- ---- files of bounds
-- `i:` and a value, i being the number of values before, of `n` in all
pub record IsBoundLine (n : ℕ) (before : List Fraction) (text : List ℕ) (x : Fraction) : Type 0 where
  pub number : List ℕ
  pub value : List ℕ
  pub parts : text ≡ number ++ 58 ∷ value
  pub counts : IsNumber number (length before)
  pub wanted : length before < n
  pub value_is : IsProbability value x

-- ---- whole files
-- What a file is read as: its content, or the offset of the first line that breaks the form; a line that is missing breaks it
-- at the end.

-- the header, and the states
abbrev pub ReadsStates : Process → List ℕ → Result (List State) ℕ → Type 0
ReadsStates p bytes = AreReadBehind (IsHeader p) (λ u. AreRead IsStateLine) (length bytes) (lines bytes)

-- the counts, and the rows of `n` states
abbrev pub rows_said : List State → Counts → List Row → ReadRows
rows_said ss c rs = record { states = ss; rows = rs; said_states = c.states; said_choices = c.choices; said_transitions = c.transitions }

abbrev pub ReadsRowsOf : List State → List ℕ → Result ReadRows ℕ → Type 0
ReadsRowsOf ss bytes = AreReadBehind IsCounts (λ c. AreReadAs (IsRowLine (length ss)) (rows_said ss c)) (length bytes) (lines bytes)

-- the header, a first state, and the steps
abbrev pub path_of : State → List PathStep → ReadPath
path_of s steps = record { states = s ∷ map (λ t. t.state) steps; labels = map (λ t. t.label) steps }

abbrev pub ReadsFirst : ℕ → List Line → Result ReadPath ℕ → Type 0
ReadsFirst end = AreReadBehind IsStateText (λ s. AreReadAs IsStepLine (path_of s)) end

abbrev pub ReadsPath : Process → List ℕ → Result ReadPath ℕ → Type 0
ReadsPath p bytes = AreReadBehind (IsHeader p) (λ u. ReadsFirst (length bytes)) (length bytes) (lines bytes)

-- `n` values
abbrev pub ReadsBounds : ℕ → List ℕ → Result (List Fraction) ℕ → Type 0
ReadsBounds n bytes (Ok xs) = Hold (IsBoundLine n) [] (lines bytes) xs × (length xs ≡ n)
ReadsBounds n bytes (Err at) =
    BreakAt (IsBoundLine n) [] (lines bytes) at
    ⊎ ((xs : List Fraction) × Hold (IsBoundLine n) [] (lines bytes) xs × (length xs < n) × (at ≡ length bytes))

-- ---- contents and breaks
abbrev pub IsPathFile : Process → List ℕ → ReadPath → Type 0
IsPathFile p bytes path = ReadsPath p bytes (Ok path)

abbrev pub IsPathBreak : Process → List ℕ → ℕ → Type 0
IsPathBreak p bytes at = ReadsPath p bytes (Err at)

-- the content of a file of states and a file of rows of these
abbrev pub AreRowFiles : Process → List ℕ → List ℕ → ReadRows → Type 0
AreRowFiles p states rows r = ReadsStates p states (Ok r.states) × ReadsRowsOf r.states rows (Ok r)

abbrev pub IsStatesBreak : Process → List ℕ → ℕ → Type 0
IsStatesBreak p states at = ReadsStates p states (Err at)

-- the file of rows breaks its form, that of states doesn't
abbrev pub IsRowsBreak : Process → List ℕ → List ℕ → ℕ → Type 0
IsRowsBreak p states rows at = (ss : List State) × ReadsStates p states (Ok ss) × ReadsRowsOf ss rows (Err at)

-- the values that a file gives so many states
abbrev pub AreBounds : ℕ → List ℕ → List Fraction → Type 0
AreBounds n bytes xs = ReadsBounds n bytes (Ok xs)

-- ---- what a reading call answers
-- where the line behind the header begins, or that the header is missing
abbrev pub IsBehindHeader : Process → List ℕ → Result ℕ Refused → Type 0
IsBehindHeader p bytes (Ok next) = (next ≤ length bytes) × ((l : Line) × (lines bytes ≡ l ∷ lines_at bytes next) × IsHeader p l.text tt)
IsBehindHeader p bytes (Err (R.At f)) = (f.reason ≡ RowSyntax) × AreReadBehind {R = ℕ} (IsHeader p) (λ u ls r. ⊥) (length bytes) (lines bytes) (Err f.at)
IsBehindHeader p bytes (Err (R.Memory e)) = Unit {0}

-- the counts of the first line, and where the next one begins
abbrev pub AreCountsFirst : List ℕ → Result (Counts × ℕ) Refused → Type 0
AreCountsFirst bytes (Ok p) = (p.1 ≤ length bytes) × ((l : Line) × (lines bytes ≡ l ∷ lines_at bytes p.1) × IsCounts l.text p.0)
AreCountsFirst bytes (Err (R.At f)) = (f.reason ≡ RowSyntax) × AreReadBehind {R = ℕ} IsCounts (λ c ls r. ⊥) (length bytes) (lines bytes) (Err f.at)
AreCountsFirst bytes (Err (R.Memory e)) = Unit {0}

abbrev pub Reads : {X : Type 0} → (Result X ℕ → Type 0) → Result X Refused → Type 0
Reads Are (Ok x) = Are (Ok x)
Reads Are (Err (R.At f)) = (f.reason ≡ RowSyntax) × Are (Err f.at)
Reads Are (Err (R.Memory e)) = Unit {0}

abbrev pub ReadsItems : {C : Type 0} → (Result (List C) ℕ → Type 0) → Result (Vec C Global) Refused → Type 0
ReadsItems Are (Ok v) = Are (Ok v.items)
ReadsItems Are (Err (R.At f)) = (f.reason ≡ RowSyntax) × Are (Err f.at)
ReadsItems Are (Err (R.Memory e)) = Unit {0}

-- lines of steps that are added to a path
abbrev pub AddsSteps : List Line → ReadPath → ReadPath → Result (Unit {0}) Refused → Type 0
AddsSteps ls old new (Ok u) = (steps : List PathStep) × Hold IsStepLine [] ls steps × (new.states ≡ old.states ++ map (λ t. t.state) steps) × (new.labels ≡ old.labels ++ map (λ t. t.label) steps)
AddsSteps ls old new (Err (R.At f)) = (f.reason ≡ RowSyntax) × BreakAt IsStepLine [] ls f.at
AddsSteps ls old new (Err (R.Memory e)) = Unit {0}
