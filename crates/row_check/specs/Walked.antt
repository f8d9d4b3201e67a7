-- What the parts of the judgement of rows answer one another. (This project's own.)
use Rattle.std.specs.Prelude.{Bool, ◌≡◌, ℕ, ◌≤◌, List, [], ◌∷◌, true, false, Option, Some, None, Result, Ok, Err, Vec}
use Rattle.std.specs.Global.{Global}
use Rattle.std.specs.List.{AllZip, list_any}
use Rattle.process_core.specs.Bounds.{excess}
use Rattle.process_core.specs.Choices.{choices}
use Rattle.process_core.specs.Ready.{Combination, Values}
use Rattle.process_core.specs.Equal.{equal_states}
use Rattle.process_core.specs.Merged.{merged, is_merging_wide}
use Rattle.process_core.specs.declared.data.State.{State}
use Rattle.process_core.specs.declared.data.StepFail.{StepFail}
use Rattle.process_core.specs.declared.data.StepFail.TheVariants.{Memory, Wide, TooMany}
use Rattle.state_choices.specs.Open.{open_target}
use Rattle.state_choices.specs.declared.open.OpenBranch.{OpenBranch}
use Rattle.state_choices.specs.declared.open.OpenOutcome.{OpenOutcome}
use Rattle.state_choices.specs.declared.open.OpenOutcome.TheVariants as O
use Rattle.row_check.specs.declared.data.Row.{Row}
use Rattle.row_check.specs.declared.merging.MergedChoice as code
use Rattle.frac_core.specs.Fraction.{Fraction}
use Rattle.process_core.specs.Process.{Branch, EquallyOften}
use Rattle.row_check.specs.declared.data.Verdict.{Verdict}
use Rattle.row_check.specs.declared.data.Verdict.TheVariants.{No}
use Rattle.row_check.specs.declared.data.Why.TheVariants.{FaultyState, Choices}
use Rattle.row_check.specs.Judging.{Before, Must, excess_verdict}
use Rattle.row_check.specs.Rows.{JudgesChoices, runs}
use Rattle.row_check.specs.Merging.{Keeps, Sums, GoodChoice, HoldsBranches, HoldsRows, TargetsDiffer, TargetsListed, has_wide_merging, reaches_unlisted}

-- rows in order of their sources, from `k` on
abbrev pub AreSortedFrom : ℕ → List Row → Type 0
AreSortedFrom k [] = Unit {0}
AreSortedFrom k (r ∷ rs) = (k ≤ r.source) × AreSortedFrom r.source rs

-- the merged rows of one choice
pub record KeepsRun (n : ℕ) (rs : List Row) (m : code.MergedChoice) : Type 0 where
  pub holds : HoldsRows rs m
  pub differ : TargetsDiffer rs
  pub listed : TargetsListed n rs

abbrev pub HoldsChoice : List State → GoodChoice → code.MergedChoice → Type 0
HoldsChoice ss c m = HoldsBranches ss c.label (merged equal_states c.branches) m

-- one choice merged: none where it leads to a state that isn't listed
abbrev pub MergesOne : List State → GoodChoice → Result (Option code.MergedChoice) StepFail → Type 0
MergesOne ss c (Ok None) = (is_merging_wide equal_states c.branches ≡ false) × (reaches_unlisted ss c ≡ true)
MergesOne ss c (Ok (Some m)) = (is_merging_wide equal_states c.branches ≡ false) × HoldsChoice ss c m
MergesOne ss c (Err Wide) = is_merging_wide equal_states c.branches ≡ true
MergesOne ss c (Err TooMany) = ⊥
MergesOne ss c (Err (Memory e)) = Unit {0}

-- all choices of a state merged: none where one leads to a state that isn't listed
abbrev pub MergesAll : List State → List GoodChoice → Result (Option (Vec code.MergedChoice Global)) StepFail → Type 0
MergesAll ss cs (Ok None) = (has_wide_merging cs ≡ false) × (list_any (reaches_unlisted ss) cs ≡ true)
MergesAll ss cs (Ok (Some v)) = (has_wide_merging cs ≡ false) × (list_any (reaches_unlisted ss) cs ≡ false) × AllZip (HoldsChoice ss) cs v.items
MergesAll ss cs (Err Wide) = has_wide_merging cs ≡ true
MergesAll ss cs (Err TooMany) = ⊥
MergesAll ss cs (Err (Memory e)) = Unit {0}

-- a branch at a state, without rewards
abbrev pub bare_branch : Values → OpenBranch → Branch Fraction Values
bare_branch s b = record { probability = b.weight; target = open_target s b; rewards = [] }

-- a choice is faulty, whatever the state
abbrev pub is_faulty : OpenOutcome → Bool
is_faulty (O.Good bs) = false
is_faulty (O.Faulty k) = true

-- what fails of the choices of a state, where they are those of combinations
abbrev pub JudgesCombinations : ℕ → Values → List Combination → List GoodChoice → Option Verdict → Type 0
JudgesCombinations k s cs fs = Before (λ o. o ≡ excess_verdict k (excess cs)) (JudgesChoices k (choices s cs) fs)

-- what fails of merged choices, where there are faulty ones besides or not
abbrev pub JudgesMerged : ℕ → Bool → Option (Vec code.MergedChoice Global) → List Row → Option Verdict → Type 0
JudgesMerged k true model own o = o ≡ Some (No (FaultyState k))
JudgesMerged k false None own o = o ≡ Some (No (Choices k))
JudgesMerged k false (Some v) own o = (n : ℕ) (ds es : List Sums) → TargetsListed n own → AllZip (Keeps n) ds v.items →
    ((ms : List code.MergedChoice) → AllZip (KeepsRun n) (runs own) ms → AllZip (Keeps n) es ms) → Must (EquallyOften ds es) (No (Choices k)) o
