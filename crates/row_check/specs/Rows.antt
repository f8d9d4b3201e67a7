-- When rows are a model's own, and the verdict on them.
use Rattle.std.specs.Prelude.{◌≡◌, ◌≢◌, ◌⊎◌, ℕ, ◌+◌, ◌<◌, List, [], ◌∷◌, map, ◌&&◌, ◌||◌, Bool, true, false, not, IsTrue, Option, Some, None, if◌then◌else◌, nat_eq, nat_lt, length, take}
use Rattle.std.specs.List.{list_any, filter, All}
use Rattle.frac_core.specs.Fraction.{Fraction}
use Rattle.process_core.specs.Process.{Choice, EquallyOften}
use Rattle.process_core.specs.Ready.{Values, Name}
use Rattle.process_core.specs.declared.data.State.{State}
use Rattle.row_check.specs.declared.data.Row.{Row}
use Rattle.row_check.specs.declared.data.ReadRows.{ReadRows}
use Rattle.row_check.specs.declared.data.Verdict.{Verdict}
use Rattle.row_check.specs.declared.data.Verdict.TheVariants.{No, Wide}
use Rattle.row_check.specs.declared.data.Why.TheVariants.{Outside, Repeated, Initial, Target, FaultyState, Choices, Counts}
use Rattle.process_core.specs.Steps.{Process}
use Rattle.row_check.specs.Judging.{Must, Before, Each, excess_verdict}
use Rattle.row_check.specs.Index.{stands_in, values_at}
use Rattle.row_check.specs.Merging.{GoodChoice, merged_choice, good_choices, is_bad, has_wide_merging, choice_of_rows}

-- ---- the choices of a file
-- rows with one source and one number of a choice
abbrev pub same_choice : Row → Row → Bool
same_choice a b = nat_eq a.source b.source && nat_eq a.choice b.choice

abbrev pub joined : Row → List (List Row) → List (List Row)
joined r [] = (r ∷ []) ∷ []
joined r ([] ∷ rest) = (r ∷ []) ∷ rest
joined r ((q ∷ qs) ∷ rest) = if same_choice r q then (r ∷ q ∷ qs) ∷ rest else (r ∷ []) ∷ (q ∷ qs) ∷ rest

-- The rows of each choice. As rows are ordered by source and choice, those of one choice stand together.
abbrev pub runs : List Row → List (List Row)
runs [] = []
runs (r ∷ rs) = joined r (runs rs)

abbrev pub rows_of : ℕ → List Row → List Row
rows_of k rs = filter (λ r. nat_eq r.source k) rs

-- the choices that the rows give the state of number `k`
abbrev pub file_choices : List State → ℕ → List Row → List GoodChoice
file_choices ss k rs = map (choice_of_rows ss) (runs (rows_of k rs))

-- ---- what a reader sees to
-- a row may come after another: it is of a later source, whose choices begin with 0, or of the same source, and there of
-- the same choice, with the same label, or of the next
abbrev pub Follows : Row → Row → Type 0
Follows a b =
    ((a.source < b.source) × (b.choice ≡ 0))
    ⊎ ((a.source ≡ b.source) × (((a.choice ≡ b.choice) × (a.label ≡ b.label)) ⊎ (b.choice ≡ a.choice + 1)))

abbrev pub FollowEachOther : Row → List Row → Type 0
FollowEachOther a [] = Unit {0}
FollowEachOther a (b ∷ rs) = Follows a b × FollowEachOther b rs

abbrev pub AreOrdered : List Row → Type 0
AreOrdered [] = Unit {0}
AreOrdered (r ∷ rs) = (r.choice ≡ 0) × FollowEachOther r rs

-- no two rows have one source, one choice and one target
abbrev pub RowsDiffer : List Row → Type 0
RowsDiffer [] = Unit {0}
RowsDiffer (r ∷ rs) = (list_any (λ q. same_choice r q && nat_eq r.target q.target) rs ≡ false) × RowsDiffer rs

-- the rows are ordered by source and choice, their sources are listed, and the targets of a choice differ
pub record AreReadRows (r : ReadRows) : Type 0 where
  pub ordered : AreOrdered r.rows
  pub sources : All (λ x. x.source < length r.states) r.rows
  pub differ : RowsDiffer r.rows

-- ---- the relation
-- the counts of the first line are those of the states, the choices and the rows
abbrev pub counts_right : ReadRows → Bool
counts_right r = nat_eq r.said_states (length r.states) && (nat_eq r.said_choices (length (runs r.rows)) && nat_eq r.said_transitions (length r.rows))

-- the model's choices are all good, and merged by their targets they are the choices of the rows equally often
pub record HasChoices (cs : List (Choice Name Fraction Values)) (fs : List GoodChoice) : Type 0 where
  pub good : list_any (λ c. is_bad c.outcome) cs ≡ false
  pub same : EquallyOften (map merged_choice (good_choices cs)) (map merged_choice fs)

-- Rows are the model's where the listed states are states and distinct, some listed state is initial, every target is
-- listed, each listed state has the choices of its rows, and the counts are right.
pub record AreRows (p : Process) (r : ReadRows) : Type 0 where
  pub states : (i : ℕ) → i < length r.states → IsTrue (p.is_state (values_at r.states i))
  pub distinct : (i j : ℕ) → i < j → j < length r.states → values_at r.states i ≢ values_at r.states j
  pub initial : list_any (λ s. p.is_initial s.values) r.states ≡ true
  pub targets : All (λ x. x.target < length r.states) r.rows
  pub choices : (k : ℕ) → k < length r.states → HasChoices (p.choices (values_at r.states k)) (file_choices r.states k r.rows)
  pub counts : IsTrue (counts_right r)

-- the initial test of a state that is tried, up to the first that is initial, is wide
abbrev pub has_wide_start : Process → List State → Bool
has_wide_start p [] = false
has_wide_start p (s ∷ ss) = p.has_wide_initial s.values || (not (p.is_initial s.values) && has_wide_start p ss)

-- nothing passes a bound: the initial tests that are made, the choices of the listed states, and their merging
pub record AreNarrowRows (p : Process) (r : ReadRows) : Type 0 where
  pub starts : has_wide_start p r.states ≡ false
  pub excess : (k : ℕ) → k < length r.states → p.excess (values_at r.states k) ≡ None
  pub merging : (k : ℕ) → k < length r.states → has_wide_merging (good_choices (p.choices (values_at r.states k))) ≡ false

-- ---- the verdict
abbrev pub JudgesListed : Process → List State → ℕ → State → Option Verdict → Type 0
JudgesListed p ss i s = Before (Must (IsTrue (p.is_state s.values)) (No (Outside i))) (Must (stands_in s.values (take i ss) ≡ false) (No (Repeated i)))

-- the states are tried in order up to the first that is initial
abbrev pub start_verdict : Process → ℕ → List State → Option Verdict
start_verdict p i [] = Some (No Initial)
start_verdict p i (s ∷ ss) = if p.has_wide_initial s.values then Some (Wide i) else (if p.is_initial s.values then None else start_verdict p (i + 1) ss)

-- the first row of this source whose target isn't one of `n` states, the rows numbered from `i`
abbrev pub target_verdict : ℕ → ℕ → ℕ → List Row → Option Verdict
target_verdict n k i [] = None
target_verdict n k i (r ∷ rs) = if nat_eq r.source k && not (nat_lt r.target n) then Some (No (Target i)) else target_verdict n k (i + 1) rs

abbrev pub JudgesChoices : ℕ → List (Choice Name Fraction Values) → List GoodChoice → Option Verdict → Type 0
JudgesChoices k cs fs =
    Before (Must (has_wide_merging (good_choices cs) ≡ false) (Wide k))
    (Before (Must (list_any (λ c. is_bad c.outcome) cs ≡ false) (No (FaultyState k)))
    (Must (EquallyOften (map merged_choice (good_choices cs)) (map merged_choice fs)) (No (Choices k))))

abbrev pub JudgesChoicesAt : Process → ℕ → Values → List GoodChoice → Option Verdict → Type 0
JudgesChoicesAt p k s fs = Before (λ o. o ≡ excess_verdict k (p.excess s)) (JudgesChoices k (p.choices s) fs)

abbrev pub JudgesState : Process → List State → List Row → ℕ → State → Option Verdict → Type 0
JudgesState p ss rs k s =
    Before (λ o. o ≡ target_verdict (length ss) k 0 rs)
    (JudgesChoicesAt p k s.values (file_choices ss k rs))

abbrev pub JudgesRows : Process → ReadRows → Option Verdict → Type 0
JudgesRows p r =
    Before (Each (JudgesListed p r.states) 0 r.states)
    (Before (λ o. o ≡ start_verdict p 0 r.states)
    (Before (Each (JudgesState p r.states r.rows) 0 r.states) (Must (IsTrue (counts_right r)) (No Counts))))
