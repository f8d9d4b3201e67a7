-- When a path that is read is a model's own, and the verdict on one. (PRISM manual, "Debugging Models With The Simulator"; the order of
-- failures is this project's own.)
use Rattle.std.specs.Prelude.{◌≡◌, ℕ, ◌+◌, List, [], ◌∷◌, false, IsTrue, Option, None}
use Rattle.process_core.specs.Ready.{Values, Name}
use Rattle.process_core.specs.Steps.{Process}
use Rattle.process_core.specs.Paths.{is_step, IsPath}
use Rattle.process_core.specs.declared.data.State.{State}
use Rattle.row_check.specs.declared.data.ReadPath.{ReadPath}
use Rattle.row_check.specs.declared.data.Verdict.{Verdict}
use Rattle.row_check.specs.declared.data.Verdict.TheVariants.{No, Wide}
use Rattle.row_check.specs.declared.data.Why.TheVariants.{Step}
use Rattle.row_check.specs.Judging.{Must, Before, excess_verdict}

-- ---- the relation
-- the later states, each behind the label of the step to it
abbrev pub read_steps : List State → List (Option Name) → List (Option Name × Values)
read_steps [] ls = []
read_steps (s ∷ ss) [] = []
read_steps (s ∷ ss) (l ∷ ls) = (l, s.values) ∷ read_steps ss ls

abbrev pub IsPathAlong : Process → List State → List (Option Name) → Type 0
IsPathAlong p [] ls = ⊥
IsPathAlong p (s ∷ ss) ls = IsPath p s.values (read_steps ss ls)

-- a path that is read is the model's own where from its first state on it is a path of the process
abbrev pub IsOwnPath : Process → ReadPath → Type 0
IsOwnPath p path = IsPathAlong p path.states path.labels

-- nothing passes a bound on the way: the first state's initial test, and the states from which a step is taken
abbrev pub StartsNarrow : Process → List State → Type 0
StartsNarrow p [] = Unit {0}
StartsNarrow p (s ∷ ss) = p.has_wide_initial s.values ≡ false

abbrev pub StepsNarrow : Process → List State → List (Option Name) → Type 0
StepsNarrow p (s ∷ t ∷ ss) (l ∷ ls) = (p.excess s.values ≡ None) × StepsNarrow p (t ∷ ss) ls
StepsNarrow p ss ls = Unit {0}

pub record IsNarrowPath (p : Process) (path : ReadPath) : Type 0 where
  pub start : StartsNarrow p path.states
  pub steps : StepsNarrow p path.states path.labels

-- ---- the verdict
abbrev pub JudgesStart : Process → List State → Option Verdict → Type 0
JudgesStart p [] = Must ⊥ (No (Step 0))
JudgesStart p (s ∷ ss) = Before (Must (p.has_wide_initial s.values ≡ false) (Wide 0)) (Must (IsTrue (p.is_initial s.values)) (No (Step 0)))

-- the step from the state after `k` steps
abbrev pub JudgesStep : Process → ℕ → Values → Option Name → Values → Option Verdict → Type 0
JudgesStep p k s l t = Before (λ o. o ≡ excess_verdict k (p.excess s)) (Must (IsTrue (is_step (p.choices s) l t)) (No (Step (k + 1))))

abbrev pub JudgesSteps : Process → ℕ → List State → List (Option Name) → Option Verdict → Type 0
JudgesSteps p k (s ∷ t ∷ ss) (l ∷ ls) = Before (JudgesStep p k s.values l t.values) (JudgesSteps p (k + 1) (t ∷ ss) ls)
JudgesSteps p k ss ls = λ o. o ≡ None

abbrev pub JudgesPath : Process → ReadPath → Option Verdict → Type 0
JudgesPath p path = Before (JudgesStart p path.states) (JudgesSteps p 0 path.states path.labels)
