-- States of one model as states of another that has the same columns in another order, and columns with a single value beside
-- them (this project's own rule).
use Rattle.std.specs.Prelude.{ℕ, zero, suc, ◌+◌, pos, List, [], ◌∷◌, map, Bool, if◌then◌else◌, nat_eq}
use Rattle.std.specs.List.{list_any, position_or_len}
use Rattle.frac_core.specs.Fraction.{whole}
use Rattle.op_trees.specs.declared.tree.Value.{Value}
use Rattle.op_trees.specs.declared.tree.Value.TheVariants as V
use Rattle.process_core.specs.Ready.{Values}

-- ---- the state that goes with a state: `columns` has, for each column here, its number there
-- what a column has that stands nowhere here
abbrev pub at_start : Value
at_start = V.Number (whole (pos 0))

-- what stands in the column that is this one
abbrev pub value_at : List ℕ → Values → ℕ → Value
value_at [] s i = at_start
value_at (c ∷ cs) [] i = at_start
value_at (c ∷ cs) (v ∷ s) i = if nat_eq c i then v else value_at cs s i

-- so many numbers, from one on
abbrev pub counting : ℕ → ℕ → List ℕ
counting k zero = []
counting k (suc n) = k ∷ counting (k + 1) n

-- the state of n columns
abbrev pub state_by : List ℕ → ℕ → Values → Values
state_by columns n s = map (value_at columns s) (counting 0 n)

-- ---- where a column stands here, and whether it does
abbrev pub slot : List ℕ → ℕ → ℕ
slot columns j = position_or_len (λ c. nat_eq c j) columns

abbrev pub stands : List ℕ → ℕ → Bool
stands columns j = list_any (λ c. nat_eq c j) columns
