-- What may pass a bound at a state: a value that is needed and has a part of 2^62 or more in size, or too many choices or
-- branches. (The bounds are this project's own.)
use Rattle.std.specs.Prelude.{ℕ, List, [], ◌∷◌, map, length, sum, Bool, false, not, ◌&&◌, ◌||◌, Option, Some, None, if◌then◌else◌, nat_lt}
use Rattle.std.specs.List.{flat_map, filter, list_any}
use Rattle.std.specs.Option.{option_map}
use Rattle.frac_core.specs.Fraction.{Fraction, plus, times, nought, unit, is_wide}
use Rattle.frac_core.specs.Sums.{total}
use Rattle.op_trees.specs.Seen.{Seen}
use Rattle.process_core.specs.Product.{multiplied}
use Rattle.process_core.specs.Ready.{Update, Ready, Sum, Combination}
use Rattle.process_core.specs.Choices.{is_false, is_true, number_of, all_defined, guard_of, weights_of, kinds_of, has_kind, weight_of, ways}

-- the sums from the left, from a sum on
abbrev pub partial_sums : Fraction → List Fraction → List Fraction
partial_sums a [] = []
partial_sums a (x ∷ xs) = plus a x ∷ partial_sums (plus a x) xs

abbrev pub partial_products : Fraction → List Fraction → List Fraction
partial_products a [] = []
partial_products a (x ∷ xs) = times a x ∷ partial_products (times a x) xs

-- a sum from the left is wide on the way
abbrev pub has_wide_sum : List Fraction → Bool
has_wide_sum xs = list_any is_wide (partial_sums nought xs)

abbrev pub if_all : Option (List Fraction) → (List Fraction → Bool) → Bool
if_all None test = false
if_all (Some xs) test = test xs

-- ---- rewards as sums of items
-- an item: its guard and its value
pub record Item : Type 0 where
  pub guard : Seen
  pub value : Seen

-- what an item adds: nothing where its guard is false, its value where that is true, else something undefined
abbrev pub adds : Item → List (Option Fraction)
adds i = if is_false i.guard.value then [] else ((if is_true i.guard.value then number_of i.value.value else None) ∷ [])

-- the sum of items; all guards are needed, and the values of those that hold
abbrev pub summed : List Item → Sum
summed is = record {
  value = option_map total (all_defined (flat_map adds is));
  wide =
      list_any (λ i. i.guard.wide || (is_true i.guard.value && i.value.wide)) is
      || if_all (all_defined (flat_map adds is)) has_wide_sum;
}

-- ---- the bounds of a state
pub data Excess : Type 0 where
  IsWide : Excess
  IsTooMany : Excess

abbrev pub has_wide_guard : Combination → Bool
has_wide_guard c = list_any (λ r. r.guard.wide) c.participants

abbrev pub fails : Option Bool → Bool
fails (Some b) = not b
fails None = false

abbrev pub holds : Option Bool → Bool
holds (Some b) = b
holds None = false

abbrev pub is_enabled : Combination → Bool
is_enabled c = not (fails (guard_of c.participants))

abbrev pub branch_count : Combination → ℕ
branch_count c = multiplied (map (λ r. length r.updates) c.participants)

-- more than 65,536 choices, or more than 1,000,000 branches of them all
abbrev pub is_too_many : List Combination → Bool
is_too_many cs = nat_lt 65536 (length cs) || nat_lt 1000000 (sum (map branch_count cs))

abbrev pub has_wide_part : Update → Bool
has_wide_part u = u.weight.wide || (list_any (λ w. w.value.wide) u.writes || list_any (λ r. r.value.wide) u.rewards)

-- a probability, an assigned value or reward, or a partial sum of probabilities that are all defined is wide
abbrev pub is_wide_participant : Ready → Bool
is_wide_participant r = list_any has_wide_part r.updates || if_all (weights_of r.updates) has_wide_sum

abbrev pub has_wide_product : Combination → Bool
has_wide_product c = list_any (λ us. list_any is_wide (partial_products unit (map weight_of us))) (ways c.participants)

-- in a combination whose guard is true: a participant, a reward or, where there is no fault, a partial product is wide
abbrev pub is_wide_rest : Combination → Bool
is_wide_rest c =
    holds (guard_of c.participants)
    && (list_any is_wide_participant c.participants || (list_any (λ m. m.wide) c.rewards
    || (not (has_kind (kinds_of c.rewards c.participants)) && has_wide_product c)))

-- the first of: a wide guard, too many, another wide part
abbrev pub first_excess : Bool → Bool → Bool → Option Excess
first_excess guards many rest = if guards then Some IsWide else (if many then Some IsTooMany else (if rest then Some IsWide else None))

abbrev pub excess : List Combination → Option Excess
excess cs = first_excess (list_any has_wide_guard cs) (is_too_many (filter is_enabled cs)) (list_any is_wide_rest cs)
