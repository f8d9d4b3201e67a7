-- What edges, locations and vectors of a file are to come out as, wherever names stand: by the numbers of columns, structures,
-- locations and actions, before a state is known (jani-model specification, version 1: "Edges", "Composition").
use Rattle.std.specs.Prelude.{◌≡◌, ℕ, ◌+◌, ◌-◌, ◌≤◌, Result, option_copied, unwrap_or, List, [], ◌∷◌, map, length, Bool, false, Option, Some, None, nat_eq, bytes_eq, slice_get, if◌then◌else◌}
use Rattle.std.specs.List.{flat_map, filter, find, list_any, position, position_or_len}
use Rattle.std.specs.Option.{option_map, option_or}
use Rattle.bridge_io.specs.declared.reason.Named.{Named}
use Rattle.op_trees.specs.Seen.{Seen}
use Rattle.op_trees.specs.declared.tree.Value.{Value}
use Rattle.op_trees.specs.declared.tree.EvalFail.{EvalFail}
use Rattle.name_rules.specs.Names.{under}
use Rattle.basics.specs.Options.{if_some}
use Rattle.process_core.specs.Ready.{Name, Write, Reward, Update, Ready, has_action, same_label}
use Rattle.process_core.specs.Instance.{Column, Valuation, numbered}
use Rattle.state_choices.specs.Trimmed.{computed, trimmed}
use Rattle.jani_tree.specs.Syntax as syntax
use Rattle.jani_tree.specs.Syntax.{Automaton, Destination, Edge, File, Location, element_names}
use Rattle.op_trees.specs.Names.{is_called}
use Rattle.jani_meaning.specs.Elements.{Owned, column_number, elements, is_global, is_own, lasting, location_number, structure_number, structures}
use Rattle.jani_meaning.specs.Scene.{constant_names, see, start_of}
use Rattle.jani_meaning.specs.Moment.{column_write, given_in, guard_seen, location_write, may_give, reward_of, weight_seen}
use Rattle.instance_start.specs.declared.data.Place.{Place}
use Rattle.instance_start.specs.declared.data.Place.TheVariants.{Constant, Variable}
use Rattle.expr_store.specs.declared.node.ExprId.{ExprId}
use Rattle.expr_store.specs.declared.node.Node.{Node}
use Rattle.jani_table.specs.declared.operator.JaniOp.{JaniOp}
use Rattle.jani_instance.specs.Prepared.{placed_names}
use Rattle.jani_instance.specs.Shapes.{Lent}
use Rattle.jani_instance.specs.Views.{At, Member, first_else, giver_from, located_seen, look_by, see_at}
use Rattle.jani_instance.specs.declared.data.Element as code
use Rattle.jani_instance.specs.declared.data.NamedElement.{NamedElement}
use Rattle.jani_instance.specs.declared.data.Transient.{Transient}
use Rattle.jani_instance.specs.declared.data.Vector as code_vector
use Rattle.jani_instance.specs.declared.data.Link.{Link}

module _ (file : File) (cs : List Column) (names : Name → Seen) (i : ℕ) (a : Automaton) where
  abbrev pub write_under : syntax.Write → List Write
  write_under w = column_write cs (column_number file i w.target.name) (see w.value names)

  abbrev pub reward_under : syntax.Write → List Reward
  reward_under w = reward_of (structure_number file i w.target.name) (see w.value names)

  abbrev pub update_under : Destination → Update
  update_under d = record {
    weight = weight_seen names d.weight;
    writes = location_write i (location_number a d.location.name) ∷ flat_map write_under d.writes;
    rewards = flat_map reward_under d.writes;
  }

  abbrev pub edge_under : Edge → Ready
  edge_under e = record {
    action = option_map (λ x. x.name) e.action;
    guard = guard_seen names e.guard;
    updates = map update_under e.destinations;
  }

  -- the edges that start at the location with this number
  abbrev pub edges_from : ℕ → List Ready
  edges_from n = map edge_under (filter (λ e. nat_eq (location_number a e.location.name) n) a.edges)

  -- the same as they are computed: the silent ones, and those of each of some actions
  abbrev pub member_from : List Name → ℕ → Member
  member_from acts n = record {
    silent = map trimmed (filter (has_action None) (edges_from n));
    parts = map (λ x. map trimmed (filter (has_action (Some x)) (edges_from n))) acts;
  }

-- an edge has this action
abbrev pub acts_with : Name → Edge → Bool
acts_with x e = same_label (Some x) (option_map (λ n. n.name) e.action)

-- ---- where names stand
abbrev pub own_place : File → ℕ → Name → Option Place
own_place file i x = option_map (λ k. Variable (length (element_names file) + k)) (position (is_own i x) (lasting file))

abbrev pub global_place : File → Name → Option Place
global_place file x =
    option_or (option_map (λ k. Variable (length (element_names file) + k)) (position (is_global x) (lasting file)))
    (option_map Constant (position (λ c. is_called x c.name) file.constants))

-- and which of them are reward structures
abbrev pub own_structure : File → ℕ → Name → Option Place
own_structure file i x = option_map Variable (position (is_own i x) (structures file))

abbrev pub global_structure : File → Name → Option Place
global_structure file x = option_map Variable (position (is_global x) (structures file))

-- in the element with this number
abbrev pub place_in : File → ℕ → Name → Option Place
place_in file i x = option_or (own_place file i x) (global_place file x)

-- the value of the constant at a place
abbrev pub value_from : List (Option Value) → Option ℕ → Option Value
value_from table None = None
value_from table (Some k) = unwrap_or (slice_get table k) None

-- ---- elements
-- What is known of an element before its names are resolved: where its own variables stand, and its edges at each location; the actions
-- are all that it has.
pub record IsNamedElementOf (file : File) (acts : List Name) (i : ℕ) (a : Automaton) (e : NamedElement) : Type 0 where
  pub own : (x : Name) → under e.own x ≡ own_place file i x
  pub edges : (cs : List Column) (names : Name → Seen) (n : ℕ) → n ≤ length a.locations - 1 →
      located_seen cs (see_at names) i (slice_get e.locations.items n) ≡ member_from file cs names i a acts n
  pub covers : (x : Name) → list_any (bytes_eq x) acts ≡ false → list_any (acts_with x) a.edges ≡ false

-- The code has of an element its edges at each location, whatever stands at the places of names; the actions are all that it has.
pub record IsElementOf (file : File) (ns : List (Node JaniOp)) (acts : List Name) (i : ℕ) (a : Automaton) (e : code.Element) : Type 0 where
  pub edges : (cs : List Column) (at : At) (n : ℕ) → n ≤ length a.locations - 1 →
      located_seen cs (look_by at ns) i (slice_get e.locations.items n) ≡ member_from file cs (placed_names (place_in file i) at) i a acts n
  pub covers : (x : Name) → list_any (bytes_eq x) acts ≡ false → list_any (acts_with x) a.edges ≡ false

-- the elements that a vector names an action for, with the number of that among the actions of the element
abbrev pub links_from : (Automaton → List Name) → ℕ → List Automaton → List (Option Named) → List Link
links_from acts i [] ps = []
links_from acts i (a ∷ as_) [] = []
links_from acts i (a ∷ as_) (None ∷ ps) = links_from acts (i + 1) as_ ps
links_from acts i (a ∷ as_) (Some x ∷ ps) = record { element = i; part = position_or_len (bytes_eq x.name) (acts a) } ∷ links_from acts (i + 1) as_ ps

-- a vector has its result, and these links
pub record IsVectorOf (file : File) (acts : Automaton → List Name) (v : syntax.Vector) (w : code_vector.Vector) : Type 0 where
  pub label : option_copied w.label ≡ option_map (λ x. x.name) v.result
  pub links : w.links.items ≡ links_from acts 0 (elements file) v.parts

-- ---- transient variables
-- the location with this number
abbrev pub location_from : Automaton → ℕ → Option Location
location_from a n = find (λ l. nat_eq (location_number a l.name.name) n) a.locations

-- what an element gives to a transient variable, where names are seen so and the location is this one
abbrev pub given_from : File → Valuation → (ℕ → Name → Seen) → (ℕ → ℕ) → Owned → ℕ → Automaton → List (Result Value EvalFail)
given_from file v names at o i a =
    if may_give file v [] i o.owner then map (λ w. computed (see w.value (names i))) (if_some (given_in file v [] o.var.name.name (location_from a (at i)))) else []

-- each element is in a location that it has
abbrev pub AreWithin : File → (ℕ → ℕ) → Type 0
AreWithin file at = (i : ℕ) (a : Automaton) → slice_get (elements file) i ≡ Some a → at i ≤ length a.locations - 1

-- a transient variable before names are resolved: what is given to it first, or else another value
pub record IsNamedTransientOf (file : File) (v : Valuation) (o : Owned) (t : Transient Lent) : Type 0 where
  pub name : t.name.now ≡ o.var.name.name
  pub start : t.start ≡ computed (start_of (constant_names file v) o.var.start)
  pub givers : (names : ℕ → Name → Seen) (at : ℕ → ℕ) → AreWithin file at → (other : Result Value EvalFail) →
      first_else other (flat_map (giver_from (λ i. see_at (names i)) at) t.givers.items) ≡ first_else other (numbered (given_from file v names at o) 0 (elements file))

pub record IsTransientOf (file : File) (v : Valuation) (ns : List (Node JaniOp)) (o : Owned) (t : Transient ExprId) : Type 0 where
  pub start : t.start ≡ computed (start_of (constant_names file v) o.var.start)
  pub givers : (values : At) (at : ℕ → ℕ) → AreWithin file at → (other : Result Value EvalFail) →
      first_else other (flat_map (giver_from (λ i. look_by values ns) at) t.givers.items)
      ≡ first_else other (numbered (given_from file v (λ i. placed_names (place_in file i) values) at o) 0 (elements file))
