-- What the parts of a network come out as in a state, over unbounded numbers: as plain data, in which no expression and no language is
-- left. (PRISM manual, "The PRISM Language": "Commands", "Synchronisation", "Costs and Rewards"; jani-model specification, version 1:
-- "Edges", "Composition", "Transient variables". Networks are this project's own.)
use Rattle.std.specs.Prelude.{ℕ, ℤ, pos, negsuc, List, [], ◌∷◌, ◌++◌, map, Bool, true, false, ◌&&◌, Option, Some, None, Result, nat_eq, option_copied, slice_get, unwrap_or, if◌then◌else◌}
use Rattle.std.specs.List.{flat_map, list_any, range_with_len}
use Rattle.std.specs.Option.{option_map}
use Rattle.std.specs.declared.cmp.PartialEq as PartialEq
use Rattle.std.proofs.Common.{Vec, Global}
use Rattle.frac_core.specs.Fraction.{unit}
use Rattle.op_trees.specs.declared.operator.Operator as Operator
use Rattle.op_trees.specs.Meaning.{Meaning}
use Rattle.op_trees.specs.Seen.{Seen, known}
use Rattle.op_trees.specs.declared.tree.EvalFail.{EvalFail}
use Rattle.op_trees.specs.declared.tree.Value.{Value}
use Rattle.op_trees.specs.declared.tree.Value.TheVariants as V
use Rattle.process_core.specs.Ready.{Values, Write, Reward, Update, Ready, Sum}
use Rattle.process_core.specs.Bounds as core_bounds
use Rattle.process_core.specs.Bounds.{summed}
use Rattle.process_core.specs.Instance as core
use Rattle.process_core.specs.Instance.{only_if, write_to}
use Rattle.gathering.specs.Lists.{list_for}
use Rattle.state_choices.specs.Groups.{Group}
use Rattle.state_choices.specs.Trimmed.{computed}
use Rattle.state_choices.specs.Views.{command_of}
use Rattle.instance_start.specs.Columns as start
use Rattle.instance_start.specs.Columns.{column_of}
use Rattle.instance_start.specs.Numbered.{Numbered, by_number}
use Rattle.instance_start.specs.declared.data.Column.{Column}
use Rattle.expr_store.specs.Nodes.{seen_at}
use Rattle.expr_store.specs.Views.{LooksIn, nodes}
use Rattle.expr_store.specs.declared.evaluation.Evaluation.{Evaluation}
use Rattle.expr_store.specs.declared.node.ExprId.{ExprId}
use Rattle.expr_store.specs.declared.store.ExprStore.{ExprStore}
use Rattle.network.specs.declared.data.Acting.{Acting}
use Rattle.network.specs.declared.data.Assignment.{Assignment}
use Rattle.network.specs.declared.data.Component.{Component}
use Rattle.network.specs.declared.data.Destination.{Destination}
use Rattle.network.specs.declared.data.Earned.{Earned}
use Rattle.network.specs.declared.data.Edge.{Edge}
use Rattle.network.specs.declared.data.Evaluated.{Evaluated}
use Rattle.network.specs.declared.data.Giver.{Giver}
use Rattle.network.specs.declared.data.Item.{Item}
use Rattle.network.specs.declared.data.Link.{Link}
use Rattle.network.specs.declared.data.Located.{Located}
use Rattle.network.specs.declared.data.Start.{Start}
use Rattle.network.specs.declared.data.Valued.{Valued}
use Rattle.network.specs.declared.data.Vector.{Vector}
use Rattle.network.specs.declared.here.Here.{Here}

-- ---- a state
pub record Setting (O : Type 0) : Type 0 where
  pub store : ExprStore O
  pub constants : List (Option Value)
  pub columns : List Column
  pub values : Values

abbrev pub setting_of : {O : Type 0} → Here O → Setting O
setting_of h = record { store = h.store.now; constants = h.constants.now; columns = h.columns.now; values = h.values.now }

abbrev pub columns_of : {O : Type 0} → Setting O → List core.Column
columns_of k = map column_of k.columns

-- what is seen of an expression
abbrev pub look_at : {O : Type 0} → Meaning O → Setting O → ExprId → Seen
look_at m k id = seen_at m (start.value_at k.values k.constants) (nodes k.store) id.number

-- an evaluation of expressions in this state
abbrev pub IsIn : {O : Type 0} {given : Operator.Ghosts O} {compared : PartialEq.Ghosts O} → Setting O → Evaluation O given compared → Type 0
IsIn k e = LooksIn e k.store k.values k.constants

-- ---- locations
abbrev pub natural : ℤ → ℕ
natural (pos n) = n
natural (negsuc n) = 0

abbrev pub count_in : Option Value → ℕ
count_in None = 0
count_in (Some (V.Truth b)) = 0
count_in (Some (V.Number q)) = natural q.num

-- the number of the location that a column holds, 0 without a column
abbrev pub location_in : Values → Option ℕ → ℕ
location_in s None = 0
location_in s (Some i) = count_in (slice_get s i)

-- ---- edges
-- a missing guard is true
abbrev pub guard_as : Option Seen → Seen
guard_as None = known (Some (V.Truth true))
guard_as (Some s) = s

-- a missing probability is 1
abbrev pub weight_as : Option Seen → Seen
weight_as None = known (Some (V.Number unit))
weight_as (Some s) = s

-- members: the silent edges of a component, and those of each of its actions
pub record Member : Type 0 where
  pub silent : List Ready
  pub parts : List (List Ready)

module _ (cs : List core.Column) (look : ExprId → Seen) where
  abbrev pub write_at : Assignment → Write
  write_at w = write_to cs w.place (look w.value)

  abbrev pub reward_at : Assignment → Reward
  reward_at r = record { structure = r.place; value = look r.value }

  abbrev pub update_at : Destination → Update
  update_at d = record {
    weight = weight_as (option_map look d.weight);
    writes = map write_at d.writes.items;
    rewards = map reward_at d.rewards.items;
  }

  -- which action it has is told by where it stands
  abbrev pub edge_at : Edge → Ready
  edge_at e = record { action = None; guard = guard_as (option_map look e.guard); updates = map update_at e.destinations.items }

  abbrev pub acting_at : Acting → Numbered Ready
  acting_at a = record { number = a.action; value = edge_at a.edge }

  abbrev pub located_at : Option Located → Member
  located_at None = record { silent = []; parts = [] }
  located_at (Some l) = record { silent = map edge_at l.silent.items; parts = by_number l.actions (map acting_at l.acting.items) }

  -- at its current location
  abbrev pub component_at : Values → Component → Member
  component_at s c = located_at (slice_get c.locations.items (location_in s c.column))

-- ---- what is earned
module _ (look : ExprId → Seen) where
  abbrev pub item_at : Item → core_bounds.Item
  item_at i = record { guard = look i.guard; value = look i.value }

  abbrev pub sum_at : List Item → Sum
  sum_at is = summed (map item_at is)

  abbrev pub earned_at : Earned → Numbered core_bounds.Item
  earned_at e = record { number = e.structure; value = item_at e.item }

  -- in each of so many structures
  abbrev pub sums_at : ℕ → List Earned → List Sum
  sums_at n es = map summed (by_number n (map earned_at es))

-- ---- groups
abbrev pub part_of : Option Member → ℕ → List Ready
part_of None p = []
part_of (Some m) p = unwrap_or (slice_get m.parts p) []

abbrev pub part_at : List Member → Link → List Ready
part_at ms l = part_of (slice_get ms l.component) l.part

abbrev pub silent_group : List Sum → Member → Group
silent_group rewards m = record { label = None; rewards = rewards; lists = m.silent ∷ [] }

abbrev pub vector_group : List Member → List Sum → Vector → Group
vector_group ms rewards v = record { label = option_copied v.label; rewards = rewards; lists = map (part_at ms) v.links.items }

-- a vector without rewards of its own has those that silent choices have
abbrev pub own_or : (List Earned → List Sum) → List Sum → Option (Vec Earned Global) → List Sum
own_or sums shared None = shared
own_or sums shared (Some es) = sums es.items

abbrev pub groups_by : (ExprId → Seen) → ℕ → List Earned → List Member → List Vector → List Group
groups_by look n silent ms vs =
    map (silent_group (sums_at look n silent)) ms ++ map (λ v. vector_group ms (own_or (sums_at look n) (sums_at look n silent) v.earned) v) vs

-- ---- marks: the first value that a location gives, or else the own one
abbrev pub own_value : (ExprId → Seen) → Option ExprId → Seen
own_value look None = known None
own_value look (Some id) = look id

abbrev pub first_else : {X : Type 0} → X → List X → X
first_else x [] = x
first_else x (y ∷ ys) = y

abbrev pub giver_values : Values → Giver → List ExprId
giver_values s g = only_if (nat_eq (location_in s (Some g.column)) g.location) g.value

abbrev pub value_by : (ExprId → Seen) → Values → Valued → Seen
value_by look s t = first_else (own_value look t.own) (map look (flat_map (giver_values s) t.givers.items))

abbrev pub value_at : {O : Type 0} → Meaning O → Setting O → Valued → Seen
value_at m k t = value_by (look_at m k) k.values t

-- as an evaluation answers it
abbrev pub valued_at : {O : Type 0} → Meaning O → Setting O → Valued → Result Value EvalFail
valued_at m k t = computed (value_at m k t)

-- ---- initial conditions
abbrev pub begins_at : ℕ → List ℕ → Bool
begins_at n ks = list_any (λ k. nat_eq k n) ks

abbrev pub all_begin : Values → List Start → Bool
all_begin s [] = true
all_begin s (x ∷ xs) = begins_at (location_in s (Some x.column)) x.locations.items && all_begin s xs

-- false where a component doesn't begin, else what the condition's expression comes out as; a missing one is true
abbrev pub condition_by : (ExprId → Seen) → Values → List Start → Option ExprId → Seen
condition_by look s starts condition = if all_begin s starts then guard_as (option_map look condition) else known (Some (V.Truth false))

-- ---- what the program's data stands for
abbrev pub member_of : Evaluated → Member
member_of m = record { silent = map command_of m.silent; parts = map (λ k. map command_of (list_for m.acting k)) (range_with_len 0 m.actions) }
