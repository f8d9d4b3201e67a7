-- The calls of a device in memory, and which of them fail.
use Rattle.std.specs.Prelude.{ℕ, ◌+◌, ◌≤◌, List, [], ◌∷◌, ◌++◌, All, Contains}
use Rattle.bridge_io.specs.Outside.{next_count}

-- the numbers of the calls that are to fail, counted from 1, the calls so far, and the faults so far
pub record Counts : Type 0 where
  pub failing : List ℕ
  pub calls : ℕ
  pub faults : ℕ

-- no call, no fault, and none that is to fail
abbrev pub no_counts : Counts
no_counts = record { failing = []; calls = 0; faults = 0 }

-- the counts with one more call that is to fail
abbrev pub with_failing : Counts → ℕ → Counts
with_failing c call = record { failing = c.failing ++ call ∷ []; calls = c.calls; faults = c.faults }

-- the counts after one more call
abbrev pub with_call : Counts → Counts
with_call c = record { failing = c.failing; calls = next_count c.calls; faults = c.faults }

-- the counts after one more fault
abbrev pub with_fault : Counts → Counts
with_fault c = record { failing = c.failing; calls = c.calls; faults = next_count c.faults }

-- The next call is one that is to fail.
abbrev pub FailsNext : Counts → Type 0
FailsNext c = Contains c.failing (c.calls + 1)

-- No call that is to fail is still to come.
abbrev pub IsCalm : Counts → Type 0
IsCalm c = All (λ number. number ≤ c.calls) c.failing
