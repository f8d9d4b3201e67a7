-- What an instance's data stands for in a state: what its expressions, edges, vectors and transient variables come out as there, as
-- far as a program computes it (jani-model specification, version 1: "Edges", "Composition", "Transient variables").
use Rattle.std.specs.Prelude.{ℕ, ℤ, pos, negsuc, List, [], ◌∷◌, ◌++◌, map, not, ◌&&◌, true, Option, Some, None, is_some, Result, nat_eq, option_copied, slice_get, unwrap_or, if◌then◌else◌}
use Rattle.std.specs.List.{flat_map, range_with_len}
use Rattle.std.specs.declared.cmp.PartialEq as PartialEq
use Rattle.std.specs.Option.{option_map}
use Rattle.gathering.specs.Lists.{list_for}
use Rattle.expr_store.specs.Nodes.{seen_at}
use Rattle.expr_store.specs.Views.{LooksIn, nodes}
use Rattle.expr_store.specs.declared.evaluation.Evaluation.{Evaluation}
use Rattle.expr_store.specs.declared.node.ExprId.{ExprId}
use Rattle.expr_store.specs.declared.node.Node.{Node}
use Rattle.expr_store.specs.declared.store.ExprStore.{ExprStore}
use Rattle.frac_core.specs.Fraction.{unit}
use Rattle.op_trees.specs.declared.operator.Operator as Operator
use Rattle.op_trees.specs.Tree.{tree}
use Rattle.op_trees.specs.Meaning.{Environment}
use Rattle.op_trees.specs.Seen.{Seen, known, known_names}
use Rattle.op_trees.specs.Types.{Types, AgreesWith}
use Rattle.op_trees.specs.declared.tree.EvalFail.{EvalFail}
use Rattle.op_trees.specs.declared.tree.Value.{Value}
use Rattle.op_trees.specs.declared.tree.Value.TheVariants as V
use Rattle.name_rules.specs.Names.{under}
use Rattle.name_rules.specs.declared.map.NameMap.{NameMap}
use Rattle.process_core.specs.Ready.{Name, Values, Write, Reward, Update, Ready, Sum}
use Rattle.process_core.specs.Choices.{is_false}
use Rattle.process_core.specs.Instance as core
use Rattle.process_core.specs.Instance.{numbered, only_if, write_to}
use Rattle.jani_table.specs.Operators.{jani_meaning}
use Rattle.jani_table.specs.declared.operator.JaniOp.{JaniOp}
use Rattle.jani_meaning.specs.Scene.{see}
use Rattle.state_choices.specs.Groups.{Group}
use Rattle.state_choices.specs.Trimmed.{computed, trimmed_seen, trimmed_write}
use Rattle.state_choices.specs.Views.{seen_of, command_of}
use Rattle.instance_start.specs.Columns.{agrees, column_of, type_of, value_at}
use Rattle.instance_start.specs.Numbered.{Numbered, by_number}
use Rattle.instance_start.specs.declared.data.Column.{Column}
use Rattle.instance_start.specs.declared.data.Place.{Place}
use Rattle.jani_instance.specs.Shapes.{Lent}
use Rattle.jani_instance.specs.declared.data.Acting.{Acting}
use Rattle.jani_instance.specs.declared.data.Assignment.{Assignment}
use Rattle.jani_instance.specs.declared.data.Destination.{Destination}
use Rattle.jani_instance.specs.declared.data.Edge.{Edge}
use Rattle.jani_instance.specs.declared.data.Located.{Located}
use Rattle.jani_instance.specs.declared.data.Element.{Element}
use Rattle.jani_instance.specs.declared.data.Link.{Link}
use Rattle.jani_instance.specs.declared.data.Vector.{Vector}
use Rattle.jani_instance.specs.declared.data.Giver.{Giver}
use Rattle.jani_instance.specs.declared.data.Transient.{Transient}
use Rattle.jani_instance.specs.declared.data.Evaluated.{Evaluated}
use Rattle.jani_instance.specs.declared.run.Here.{Here}
use Rattle.jani_instance.specs.declared.run.Run.{Run}

-- ---- expressions that are lent from the file
abbrev pub see_at : (Name → Seen) → Lent → Seen
see_at names e = see (tree e.now) names

-- global names, by the values of the columns
abbrev pub values_at : Values → NameMap Place → List (Option Value) → Environment
values_at s places constants x = value_at s constants (under places x)

-- the names of constants alone
abbrev pub values_by : NameMap Place → List (Option Value) → Environment
values_by = values_at []

abbrev pub values_in : Run → Environment
values_in r = values_at r.values.now r.places.now r.constants.now

abbrev pub seen_in : Run → Name → Seen
seen_in r = known_names (values_in r)

abbrev pub types_in : Run → Types
types_in r x = type_of (values_in r x)

-- a value that a name has, has the type that the name has
pub types_agree : (r : Run) (x : Name) → AgreesWith (types_in r x) (values_in r x)
types_agree r x = agrees (values_in r x)

-- ---- expressions of a store
-- what stands at each place
abbrev pub At : Type 0
At = Option Place → Option Value

abbrev pub look_by : At → List (Node JaniOp) → ExprId → Seen
look_by at ns id = seen_at jani_meaning at ns id.number

-- an instance in a state
pub record Setting : Type 0 where
  pub store : ExprStore JaniOp
  pub constants : List (Option Value)
  pub columns : List Column
  pub elements : List Element
  pub values : Values

abbrev pub setting_of : Here → Setting
setting_of h = record { store = h.store.now; constants = h.constants.now; columns = h.columns.now; elements = h.elements.now; values = h.values.now }

abbrev pub columns_of : Setting → List core.Column
columns_of k = map column_of k.columns

abbrev pub look_at : Setting → ExprId → Seen
look_at k = look_by (value_at k.values k.constants) (nodes k.store)

-- an evaluation of its expressions in this state
abbrev pub IsIn : {given : Operator.Ghosts JaniOp} {compared : PartialEq.Ghosts JaniOp} → Setting → Evaluation JaniOp given compared → Type 0
IsIn k e = LooksIn e k.store k.values k.constants

-- ---- the location of an element
abbrev pub natural : ℤ → ℕ
natural (pos n) = n
natural (negsuc n) = 0

abbrev pub count_in : Option Value → ℕ
count_in None = 0
count_in (Some (V.Truth b)) = 0
count_in (Some (V.Number q)) = natural q.num

abbrev pub location_at : Values → ℕ → ℕ
location_at s i = count_in (slice_get s i)

-- ---- edges
-- a missing guard is true
abbrev pub guard_as : Option Seen → Seen
guard_as None = known (Some (V.Truth true))
guard_as (Some s) = s

-- a missing probability is 1
abbrev pub weight_as : Option Seen → Seen
weight_as None = known (Some (V.Number unit))
weight_as (Some s) = s

-- the new location of the element with this number
abbrev pub location_seen : ℕ → Result Value EvalFail → Write
location_seen i l = record { column = i; value = seen_of l; fits = is_some (seen_of l).value }

-- assignments, wherever their values are looked at
module _ {E : Type 0} where
  abbrev pub write_seen : List core.Column → (E → Seen) → Assignment E → Write
  write_seen cs look w = trimmed_write (write_to cs w.place (look w.value))

  abbrev pub reward_seen : (E → Seen) → Assignment E → Reward
  reward_seen look r = record { structure = r.place; value = trimmed_seen (look r.value) }

module _ {E : Type 0} (cs : List core.Column) (look : E → Seen) (i : ℕ) where
  abbrev pub update_seen : Destination E → Update
  update_seen d = record {
    weight = trimmed_seen (weight_as (option_map look d.weight));
    writes = location_seen i d.location ∷ map (write_seen cs look) d.writes.items;
    rewards = map (reward_seen look) d.rewards.items;
  }

  abbrev pub updates_seen : Seen → List (Destination E) → List Update
  updates_seen guard ds = if not guard.wide && is_false guard.value then [] else map update_seen ds

  -- where the guard is false, its updates aren't asked for
  abbrev pub edge_seen : Edge E → Ready
  edge_seen e = record {
    action = None;
    guard = trimmed_seen (guard_as (option_map look e.guard));
    updates = updates_seen (guard_as (option_map look e.guard)) e.destinations.items;
  }

  abbrev pub acting_seen : Acting E → Numbered Ready
  acting_seen a = record { number = a.action; value = edge_seen a.edge }

-- ---- members: the silent edges of an element, and those of each of its actions
pub record Member : Type 0 where
  pub silent : List Ready
  pub parts : List (List Ready)

abbrev pub member_of : Evaluated → Member
member_of m = record { silent = map command_of m.silent; parts = map (λ k. map command_of (list_for m.acting k)) (range_with_len 0 m.actions) }

abbrev pub located_seen : {E : Type 0} → List core.Column → (E → Seen) → ℕ → Option (Located E) → Member
located_seen cs look i None = record { silent = []; parts = [] }
located_seen cs look i (Some l) = record {
  silent = map (edge_seen cs look i) l.silent.items;
  parts = by_number l.actions (map (acting_seen cs look i) l.acting.items);
}

abbrev pub member_seen : Setting → ℕ → Element → Member
member_seen k i e = located_seen (columns_of k) (look_at k) i (slice_get e.locations.items (location_at k.values i))

abbrev pub members_seen : Setting → List Member
members_seen k = numbered (λ i e. member_seen k i e ∷ []) 0 k.elements

-- ---- groups
abbrev pub part_of : Option Member → ℕ → List Ready
part_of None p = []
part_of (Some m) p = unwrap_or (slice_get m.parts p) []

abbrev pub part_at : List Member → Link → List Ready
part_at ms l = part_of (slice_get ms l.element) l.part

abbrev pub silent_group : List Sum → Member → Group
silent_group rewards m = record { label = None; rewards = rewards; lists = m.silent ∷ [] }

abbrev pub vector_group : List Sum → List Member → Vector → Group
vector_group rewards ms v = record { label = option_copied v.label; rewards = rewards; lists = map (part_at ms) v.links.items }

abbrev pub groups_of : List Sum → List Member → List Vector → List Group
groups_of rewards ms vs = map (silent_group rewards) ms ++ map (vector_group rewards ms) vs

-- ---- transient variables: the first value that a location gives, or else the one that it begins with
abbrev pub first_else : {X : Type 0} → X → List X → X
first_else x [] = x
first_else x (y ∷ ys) = y

-- what a location of an element gives, where the element is there
abbrev pub giver_from : {E : Type 0} → (ℕ → E → Seen) → (ℕ → ℕ) → Giver E → List (Result Value EvalFail)
giver_from look at g = only_if (nat_eq (at g.element) g.location) (computed (look g.element g.value))

abbrev pub giver_values : Setting → Giver ExprId → List (Result Value EvalFail)
giver_values k = giver_from (λ i. look_at k) (location_at k.values)

abbrev pub transient_value : Setting → Transient ExprId → Result Value EvalFail
transient_value k t = first_else t.start (flat_map (giver_values k) t.givers.items)
