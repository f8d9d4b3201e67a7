-- The choices of a state, from what its combinations are there.
-- (PRISM manual, "The PRISM Language": "Commands", "Synchronisation", "Costs and Rewards"; jani-model specification,
-- "Models", "Edges", "Transient variables". Which faults a choice has is a rule of this project.)
use Rattle.std.specs.Prelude.{List, [], ◌∷◌, map, Bool, true, false, not, ◌&&◌, ◌||◌, Option, Some, None, if◌then◌else◌, is_none, is_some, int_lt, pos, unwrap_or, slice_set}
use Rattle.std.specs.List.{flat_map, list_any}
use Rattle.frac_core.specs.Fraction.{Fraction, nought, unit, same_number}
use Rattle.frac_core.specs.Sums.{total, product}
use Rattle.op_trees.specs.declared.tree.Value.{Value}
use Rattle.op_trees.specs.declared.tree.Value.TheVariants as V
use Rattle.process_core.specs.Process.{Kinds, Branch, Outcome, Good, Bad, Choice}
use Rattle.process_core.specs.Product.{one_of_each}
use Rattle.process_core.specs.Ready.{Values, Name, Write, Reward, Update, Ready, Sum, Combination}

-- ---- values
abbrev pub is_false : Option Value → Bool
is_false (Some (V.Truth b)) = not b
is_false (Some (V.Number q)) = false
is_false None = false

abbrev pub is_true : Option Value → Bool
is_true (Some (V.Truth b)) = b
is_true (Some (V.Number q)) = false
is_true None = false

abbrev pub number_of : Option Value → Option Fraction
number_of (Some (V.Number q)) = Some q
number_of (Some (V.Truth b)) = None
number_of None = None

abbrev pub truth_of : Option Value → Option Bool
truth_of (Some (V.Truth b)) = Some b
truth_of (Some (V.Number q)) = None
truth_of None = None

-- all of them, where all are defined
abbrev pub with_first : {X : Type 0} → Option X → Option (List X) → Option (List X)
with_first (Some x) (Some xs) = Some (x ∷ xs)
with_first (Some x) None = None
with_first None r = None

abbrev pub all_defined : {X : Type 0} → List (Option X) → Option (List X)
all_defined [] = Some []
all_defined (x ∷ xs) = with_first x (all_defined xs)

-- ---- the guard of a combination: false where a participant's is, else undefined where one is, else true
abbrev pub guard_of : List Ready → Option Bool
guard_of rs =
    if list_any (λ r. is_false r.guard.value) rs then Some false
    else (if list_any (λ r. is_none r.guard.value) rs then None else Some true)

-- ---- the kinds of faults of a combination
abbrev pub weights_of : List Update → Option (List Fraction)
weights_of us = all_defined (map (λ u. number_of u.weight.value) us)

abbrev pub is_negative : Fraction → Bool
is_negative x = int_lt x.num (pos 0)

-- the probabilities of a participant are all defined, and one is negative or their sum isn't 1
abbrev pub weighs_wrong : Option (List Fraction) → Bool
weighs_wrong None = false
weighs_wrong (Some xs) = list_any is_negative xs || not (same_number (total xs) unit)

-- a probability, an assigned value or an assigned reward is undefined
abbrev pub has_undef : Update → Bool
has_undef u =
    is_none (number_of u.weight.value) || (list_any (λ w. is_none w.value.value) u.writes || list_any (λ r. is_none (number_of r.value.value)) u.rewards)

-- a defined value that is assigned is outside its range
abbrev pub has_outside : Update → Bool
has_outside u = list_any (λ w. is_some w.value.value && not w.fits) u.writes

abbrev pub kinds_of : List Sum → List Ready → Kinds
kinds_of rewards rs = record {
  undef = list_any (λ r. list_any has_undef r.updates) rs || list_any (λ m. is_none m.value) rewards;
  range = list_any (λ r. list_any has_outside r.updates) rs;
  weight = list_any (λ r. weighs_wrong (weights_of r.updates)) rs;
}

abbrev pub has_kind : Kinds → Bool
has_kind k = k.undef || (k.range || k.weight)

abbrev pub undef_alone : Kinds
undef_alone = record { undef = true; range = false; weight = false }

-- ---- branches
abbrev pub weight_of : Update → Fraction
weight_of u = unwrap_or (number_of u.weight.value) nought

-- a state after assignments: other columns keep their values
abbrev pub written : Values → List Write → Values
written s [] = s
written s (w ∷ ws) = written (slice_set s w.column (unwrap_or w.value.value (V.Truth false))) ws

-- the rewards of a combination's own, and in their places those that updates assign
abbrev pub assigned : List Fraction → List Reward → List Fraction
assigned own [] = own
assigned own (r ∷ rs) = assigned (slice_set own r.structure (unwrap_or (number_of r.value.value) nought)) rs

abbrev pub own_rewards : List Sum → List Fraction
own_rewards rewards = map (λ m. unwrap_or m.value nought) rewards

-- one update from each participant: the product of the probabilities, the state after all assignments, the rewards
abbrev pub branch_of : Values → List Sum → List Update → Branch Fraction Values
branch_of s rewards us = record {
  probability = product (map weight_of us);
  target = written s (flat_map (λ u. u.writes) us);
  rewards = assigned (own_rewards rewards) (flat_map (λ u. u.rewards) us);
}

-- the ways to take one update from each participant
abbrev pub ways : List Ready → List (List Update)
ways rs = one_of_each (map (λ r. r.updates) rs)

-- ---- choices
abbrev pub outcome_of : Kinds → List (Branch Fraction Values) → Outcome Fraction Values
outcome_of k bs = if has_kind k then Bad k else Good bs

-- nothing where the guard is false, Bad with undef alone where it is undefined
abbrev pub choice_from : Option Bool → Option Name → Outcome Fraction Values → List (Choice Name Fraction Values)
choice_from (Some false) label o = []
choice_from None label o = record { label = label; outcome = Bad undef_alone } ∷ []
choice_from (Some true) label o = record { label = label; outcome = o } ∷ []

abbrev pub choice_of : Values → Combination → List (Choice Name Fraction Values)
choice_of s c =
    choice_from (guard_of c.participants) c.label
    (outcome_of (kinds_of c.rewards c.participants) (map (branch_of s c.rewards) (ways c.participants)))

abbrev pub choices : Values → List Combination → List (Choice Name Fraction Values)
choices s cs = flat_map (choice_of s) cs
