-- Rewards that updates assign, as rewards that their combination has by itself (jani-model specification, version 1, "Transient
-- variables": an assignment of a destination; PRISM manual, "The PRISM Language", "Costs and Rewards": an item for an action).
use Rattle.std.specs.Prelude.{◌≡◌, List, [], map, Bool, not, ◌||◌, Option, is_none}
use Rattle.std.specs.List.{flat_map, list_any, All}
use Rattle.frac_core.specs.Fraction.{Fraction}
use Rattle.process_core.specs.Ready.{Name, Reward, Update, Ready, Sum, Combination}
use Rattle.process_core.specs.Choices.{is_false, number_of, assigned, own_rewards, ways}

abbrev pub earning : Option Name → List Sum → List Ready → Combination
earning label own rs = record { label = label; rewards = own; participants = rs }

-- its guard isn't false
abbrev pub is_enabled : Ready → Bool
is_enabled r = not (is_false r.guard.value)

-- ---- without the rewards that it assigns
abbrev pub bare_update : Update → Update
bare_update u = record { weight = u.weight; writes = u.writes; rewards = [] }

abbrev pub bare_ready : Ready → Ready
bare_ready r = record { action = r.action; guard = r.guard; updates = map bare_update r.updates }

-- ---- something has no value
abbrev pub any_undef : List Reward → Bool
any_undef rs = list_any (λ r. is_none (number_of r.value.value)) rs

abbrev pub assigns_undef : Update → Bool
assigns_undef u = any_undef u.rewards

abbrev pub some_assigns_undef : List Ready → Bool
some_assigns_undef rs = list_any (λ r. list_any assigns_undef r.updates) rs

abbrev pub some_undef : List Sum → Bool
some_undef ms = list_any (λ m. is_none m.value) ms

-- ---- what is earned
-- Each way to take one update of each participant earns `given`; and something of that is undefined where something is that
-- is assigned.
pub record AllEarn (own : List Sum) (rs : List Ready) (given : List Sum) : Type 0 where
  pub same : All (λ us. assigned (own_rewards own) (flat_map (λ u. u.rewards) us) ≡ own_rewards given) (ways rs)
  pub undef : (some_assigns_undef rs || some_undef own) ≡ some_undef given

-- two lists of assignments have the same effect, in whatever order they are
abbrev pub AssignsAlike : List Reward → List Reward → Type 0
AssignsAlike rs qs = (own : List Fraction) → assigned own rs ≡ assigned own qs

-- each of its updates assigns these rewards
pub record Pays (paid : List Reward) (r : Ready) : Type 0 where
  pub each : All (λ u. AssignsAlike u.rewards paid) r.updates
  pub undef : list_any assigns_undef r.updates ≡ any_undef paid

-- where a combination has `own` by itself, these assignments make it what one that has `given` earns
pub record EarnsBy (own given : List Sum) (paid : List Reward) : Type 0 where
  pub same : assigned (own_rewards own) paid ≡ own_rewards given
  pub undef : (any_undef paid || some_undef own) ≡ some_undef given
