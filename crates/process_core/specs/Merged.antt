-- Branches merged by their targets: one for each target, with the sum of the probabilities.
-- (Plain mathematics; that a target of sum 0 is left out is this project's own.)
use Rattle.std.specs.Prelude.{List, [], map, Bool, not}
use Rattle.std.specs.List.{filter, list_any}
use Rattle.frac_core.specs.Fraction.{Fraction, nought, same_number}
use Rattle.frac_core.specs.Sums.{total}
use Rattle.process_core.specs.Process.{Branch}
use Rattle.process_core.specs.Ready.{firsts}
use Rattle.process_core.specs.Bounds.{has_wide_sum}

-- one branch to each of these targets, without rewards
abbrev pub branches_to : {S : Type 0} → (S → Fraction) → List S → List (Branch Fraction S)
branches_to weight ts = map (λ t. record { probability = weight t; target = t; rewards = [] }) ts

module _ {S : Type 0} (same : S → S → Bool) where
  -- the probabilities of the branches to a target, in order
  abbrev pub weights_to : S → List (Branch Fraction S) → List Fraction
  weights_to t bs = map (λ b. b.probability) (filter (λ b. same t b.target) bs)

  -- the targets, in order of first occurrence
  abbrev pub targets_of : List (Branch Fraction S) → List S
  targets_of bs = firsts same (map (λ b. b.target) bs)

  -- one branch to each target, with the sum of the probabilities to it
  abbrev pub summed_up : List (Branch Fraction S) → List (Branch Fraction S)
  summed_up bs = branches_to (λ t. total (weights_to t bs)) (targets_of bs)

  -- those whose sum is not 0
  abbrev pub merged : List (Branch Fraction S) → List (Branch Fraction S)
  merged bs = filter (λ b. not (same_number b.probability nought)) (summed_up bs)

  -- a partial sum for some target is wide
  abbrev pub is_merging_wide : List (Branch Fraction S) → Bool
  is_merging_wide bs = list_any (λ t. has_wide_sum (weights_to t bs)) (targets_of bs)
