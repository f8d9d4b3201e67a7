-- What a program keeps while it merges branches: the sums so far, and under keys the places of their targets.
use Rattle.std.specs.Prelude.{◌≡◌, ℕ, ℤ, pos, List, [], ◌∷◌, ◌++◌, map, true, false, Result, Ok, Err, Vec}
use Rattle.std.specs.Global.{Global}
use Rattle.std.specs.List.{position_from}
use Rattle.std.specs.Ordering.{int_cmp, int_eq}
use Rattle.std.specs.declared.cmp.Ordering.{Ordering}
use Rattle.std.specs.Cmp.Lexicographic.{slice_cmp, pointwise}
use Rattle.std.specs.BTreeMap.{BTreeMap, get}
use Rattle.frac_core.specs.Fraction.{Fraction, plus, is_wide}
use Rattle.frac_core.specs.Sums.{total}
use Rattle.op_trees.specs.declared.tree.Value.{Value}
use Rattle.op_trees.specs.declared.tree.Value.TheVariants as V
use Rattle.process_core.specs.Process.{Branch}
use Rattle.process_core.specs.Ready.{Values}
use Rattle.process_core.specs.Bounds.{has_wide_sum}
use Rattle.process_core.specs.Equal.{equal_states}
use Rattle.process_core.specs.declared.data.StepFail.{StepFail}
use Rattle.process_core.specs.declared.data.StepFail.TheVariants.{Memory, Wide, TooMany}
use Rattle.process_core.specs.Merged.{weights_to, summed_up}

-- two integers for each value: a fraction's parts, or a truth value over 0, which is no fraction's denominator
abbrev pub parts_of : Value → List ℤ
parts_of (V.Truth true) = pos 1 ∷ pos 0 ∷ []
parts_of (V.Truth false) = pos 0 ∷ pos 0 ∷ []
parts_of (V.Number q) = q.num ∷ pos q.den ∷ []

abbrev pub key_of : Values → List ℤ
key_of [] = []
key_of (v ∷ s) = parts_of v ++ key_of s

-- keys as code orders them
abbrev pub by_items : Vec ℤ Global → Vec ℤ Global → Ordering
by_items a b = slice_cmp int_cmp a.items b.items

-- the keys of the targets of sums
abbrev pub keys_of : List (Branch Fraction Values) → List (List ℤ)
keys_of sums = map (λ b. key_of b.target) sums

-- under each key this finds its first place among these keys, if it has one
abbrev pub IsIndex : BTreeMap (Vec ℤ Global) ℕ → List (List ℤ) → Type 0
IsIndex m ks = (q : Vec ℤ Global) → get by_items m q ≡ position_from (pointwise int_eq q.items) 0 ks

-- These are the sums for the branches so far, and no partial sum was wide.
pub record IsSummed (done : List (Branch Fraction Values)) (sums : List (Branch Fraction Values)) : Type 0 where
  pub sums_are : sums ≡ summed_up equal_states done
  pub narrow : (t : Values) → has_wide_sum (weights_to equal_states t done) ≡ false

-- one more branch, and what a call answers that adds it: Ok, or Wide where the sum for its target becomes wide
abbrev pub AddsBranch : List (Branch Fraction Values) → Branch Fraction Values → List (Branch Fraction Values) → Result (Unit {0}) StepFail → Type 0
AddsBranch done b sums (Ok x) = IsSummed (done ++ b ∷ []) sums
AddsBranch done b sums (Err Wide) = is_wide (plus (total (weights_to equal_states b.target done)) b.probability) ≡ true
AddsBranch done b sums (Err TooMany) = ⊥
AddsBranch done b sums (Err (Memory e)) = Unit {0}
