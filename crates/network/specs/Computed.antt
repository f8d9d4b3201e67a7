-- What the parts of a network come out as in a state, as far as a program computes it. (This project's own rule.)
use Rattle.std.specs.Prelude.{ℕ, List, [], ◌∷◌, ◌++◌, map, not, ◌&&◌, Option, Some, None, Result, slice_get, if◌then◌else◌}
use Rattle.std.specs.List.{list_any}
use Rattle.std.specs.Option.{option_map}
use Rattle.frac_core.specs.Fraction.{Fraction}
use Rattle.op_trees.specs.Meaning.{Meaning}
use Rattle.op_trees.specs.Seen.{Seen}
use Rattle.op_trees.specs.declared.tree.EvalFail.{EvalFail}
use Rattle.process_core.specs.Choices.{is_false}
use Rattle.process_core.specs.Ready.{Write, Reward, Update, Ready, Sum}
use Rattle.process_core.specs.Instance as core
use Rattle.process_core.specs.Instance.{numbered}
use Rattle.state_choices.specs.Groups.{Group}
use Rattle.state_choices.specs.Trimmed.{trimmed_seen, trimmed_sum, trimmed_write}
use Rattle.state_choices.specs.Views.{sum_of}
use Rattle.instance_start.specs.Numbered.{Numbered, by_number}
use Rattle.expr_store.specs.declared.node.ExprId.{ExprId}
use Rattle.network.specs.Spared.{is_closed}
use Rattle.network.specs.Views.{Member, Setting, columns_of, guard_as, location_in, look_at, member_of, part_at, silent_group, sums_at, vector_group, weight_as, write_at}
use Rattle.network.specs.declared.data.Acting.{Acting}
use Rattle.network.specs.declared.data.Assignment.{Assignment}
use Rattle.network.specs.declared.data.Component.{Component}
use Rattle.network.specs.declared.data.Destination.{Destination}
use Rattle.network.specs.declared.data.Earned.{Earned}
use Rattle.network.specs.declared.data.Edge.{Edge}
use Rattle.network.specs.declared.data.EvaluatedNetwork.{EvaluatedNetwork}
use Rattle.network.specs.declared.data.Located.{Located}
use Rattle.network.specs.declared.data.Vector.{Vector}

-- ---- edges
abbrev pub reward_seen : (ExprId → Seen) → Assignment → Reward
reward_seen look r = record { structure = r.place; value = trimmed_seen (look r.value) }

module _ (cs : List core.Column) (look : ExprId → Seen) where
  abbrev pub write_seen : Assignment → Write
  write_seen w = trimmed_write (write_at cs look w)

  abbrev pub update_seen : Destination → Update
  update_seen d = record {
    weight = trimmed_seen (weight_as (option_map look d.weight));
    writes = map write_seen d.writes.items;
    rewards = map (reward_seen look) d.rewards.items;
  }

  abbrev pub updates_seen : Seen → List Destination → List Update
  updates_seen guard ds = if not guard.wide && is_false guard.value then [] else map update_seen ds

  -- where the guard is false, its updates aren't asked for
  abbrev pub edge_seen : Edge → Ready
  edge_seen e = record {
    action = None;
    guard = trimmed_seen (guard_as (option_map look e.guard));
    updates = updates_seen (guard_as (option_map look e.guard)) e.destinations.items;
  }

  abbrev pub acting_seen : Acting → Numbered Ready
  acting_seen a = record { number = a.action; value = edge_seen a.edge }

  abbrev pub located_seen : Option Located → Member
  located_seen None = record { silent = []; parts = [] }
  located_seen (Some l) = record { silent = map edge_seen l.silent.items; parts = by_number l.actions (map acting_seen l.acting.items) }

abbrev pub component_seen : {O : Type 0} → Meaning O → Setting O → Component → Member
component_seen m k c = located_seen (columns_of k) (look_at m k) (slice_get c.locations.items (location_in k.values c.column))

-- ---- what is earned
abbrev pub sums_seen : (ExprId → Seen) → ℕ → List Earned → List Sum
sums_seen look n es = map trimmed_sum (sums_at look n es)

-- by the choices of a vector; nothing is asked for where it has none
abbrev pub own_seen : (ExprId → Seen) → ℕ → List Member → Vector → Option (List Sum)
own_seen look n ms v = option_map (λ es. if list_any is_closed (map (part_at ms) v.links.items) then [] else sums_seen look n es.items) v.earned

-- ---- groups
abbrev pub own_in : Option (List (Result Fraction EvalFail)) → Option (List Sum)
own_in o = option_map (map sum_of) o

abbrev pub rewards_for : List Sum → Option (Option (List Sum)) → List Sum
rewards_for shared None = shared
rewards_for shared (Some None) = shared
rewards_for shared (Some (Some own)) = own

abbrev pub vectors_of : List Sum → List (Option (List Sum)) → List Member → ℕ → List Vector → List Group
vectors_of shared own ms i vs = numbered (λ i v. vector_group ms (rewards_for shared (slice_get own i)) v ∷ []) i vs

abbrev pub grouped : List Sum → List (Option (List Sum)) → List Member → List Vector → List Group
grouped shared own ms vs = map (silent_group shared) ms ++ vectors_of shared own ms 0 vs

abbrev pub groups_of : EvaluatedNetwork → List Vector → List Group
groups_of e vs = grouped (map sum_of e.rewards) (map own_in e.own.items) (map member_of e.members.items) vs
