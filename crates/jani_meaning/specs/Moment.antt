-- A JANI file at a state: what the edges at the current locations, the vectors and the transient variables come out as
-- (jani-model specification, version 1: "Edges", "Composition", "Transient variables"). All expressions read the state as
-- it is before a choice. That no expression reads a transient variable is a rule of this project: one that is read has no
-- value.
use Rattle.std.specs.Prelude.{ℕ, pos, List, [], ◌∷◌, map, Bool, true, false, Option, Some, None, if◌then◌else◌, nat_eq, slice_get, ◌+◌, length, not, ◌&&◌, ◌||◌}
use Rattle.std.specs.List.{find, filter, flat_map, list_any}
use Rattle.std.specs.Option.{option_map}
use Rattle.frac_core.specs.Fraction.{unit, whole}
use Rattle.op_trees.specs.Seen.{Seen, known}
use Rattle.op_trees.specs.declared.tree.Value.{Value}
use Rattle.op_trees.specs.declared.tree.Value.TheVariants as V
use Rattle.process_core.specs.Equal.{equal_values}
use Rattle.basics.specs.Options.{if_some}
use Rattle.process_core.specs.Ready.{Values, Name, Write, Reward, Update, Ready, Vector}
use Rattle.jani_tree.specs.Syntax.{Expression, Location, Destination, Edge, Automaton, File, element_names}
use Rattle.jani_tree.specs.Syntax as syntax
use Rattle.process_core.specs.Instance.{Valuation, Column, numbered, write_to, no_condition}
use Rattle.op_trees.specs.Names.{is_called}
use Rattle.bridge_io.specs.declared.reason.Named.{Named}
use Rattle.jani_meaning.specs.Elements.{elements, has_several_starts, location_number, Owned, labels, structures, column_number, structure_number}
use Rattle.jani_meaning.specs.Scene.{see, constant, constant_names, counted, start_of, columns_of}

-- a file at a state: its initial condition, the edges of each element at its current location, the vectors, the labels and the
-- rewards
pub record Moment : Type 0 where
  pub condition : Seen
  pub elements : List (List Ready)
  pub vectors : List Vector
  pub labels : List Seen
  pub rewards : List Seen

-- ---- names in a state
-- the value of a column, where there is one, else that of the constant
abbrev pub value_in : Values → Option ℕ → Option Value → Option Value
value_in s None constant = constant
value_in s (Some k) constant = slice_get s k

-- the names of an expression of the element with this number
abbrev pub names_in : File → Valuation → Values → ℕ → Name → Seen
names_in file v s i x = known (value_in s (column_number file i x) (constant file v x))

-- ---- locations
abbrev pub is_number : ℕ → Option Value → Bool
is_number n None = false
is_number n (Some v) = equal_values v (V.Number (whole (pos n)))

-- the location of this name is the current one of the element with this number
abbrev pub is_current : Values → ℕ → Automaton → Name → Bool
is_current s i a x = is_number (location_number a x) (slice_get s i)

abbrev pub current_location : Values → ℕ → Automaton → Option Location
current_location s i a = find (λ l. is_current s i a l.name.name) a.locations

-- ---- initial conditions
-- the current location of the element is one that it may begin in; where there is but one, its column says so
abbrev pub is_among : Values → ℕ → Automaton → List Named → Bool
is_among s i a ns = list_any (λ n. is_current s i a n.name) ns

abbrev pub begins_here : Values → ℕ → Automaton → Bool
begins_here s i a = not (has_several_starts a) || is_among s i a a.initial

abbrev pub begin_here : Values → ℕ → List Automaton → Bool
begin_here s i [] = true
begin_here s i (a ∷ as_) = begins_here s i a && begin_here s (i + 1) as_

-- a missing "restrict-initial" is true
abbrev pub restriction_seen : (Name → Seen) → Option Expression → Seen
restriction_seen names None = no_condition
restriction_seen names (Some e) = see e names

-- false where an element is at none of its initial locations, else what "restrict-initial" comes out as, in which constants and
-- global variables alone have a value
abbrev pub condition_at : File → Valuation → Values → Seen
condition_at file v s =
    if begin_here s 0 (elements file) then restriction_seen (names_in file v s (length (element_names file))) file.restrict
    else known (Some (V.Truth false))

-- ---- edges
-- a missing guard is true
abbrev pub guard_seen : (Name → Seen) → Option Expression → Seen
guard_seen names None = known (Some (V.Truth true))
guard_seen names (Some e) = see e names

-- a missing probability is 1
abbrev pub weight_seen : (Name → Seen) → Option Expression → Seen
weight_seen names None = known (Some (V.Number unit))
weight_seen names (Some e) = see e names

-- an edge goes to a location of its automaton, which is always in range
abbrev pub location_write : ℕ → ℕ → Write
location_write i n = record { column = i; value = counted n; fits = true }

abbrev pub column_write : List Column → Option ℕ → Seen → List Write
column_write cs None value = []
column_write cs (Some k) value = write_to cs k value ∷ []

abbrev pub reward_of : Option ℕ → Seen → List Reward
reward_of None value = []
reward_of (Some k) value = record { structure = k; value = value } ∷ []

module _ (file : File) (v : Valuation) (s : Values) where
  -- an assignment to a variable that is not transient
  abbrev pub write_at : ℕ → syntax.Write → List Write
  write_at i w = column_write (columns_of file v) (column_number file i w.target.name) (see w.value (names_in file v s i))

  -- an assignment to a reward structure
  abbrev pub reward_at : ℕ → syntax.Write → List Reward
  reward_at i w = reward_of (structure_number file i w.target.name) (see w.value (names_in file v s i))

  -- a destination: its location is written first
  abbrev pub update_at : ℕ → Automaton → Destination → Update
  update_at i a d = record {
    weight = weight_seen (names_in file v s i) d.weight;
    writes = location_write i (location_number a d.location.name) ∷ flat_map (write_at i) d.writes;
    rewards = flat_map (reward_at i) d.writes;
  }

  abbrev pub edge_at : ℕ → Automaton → Edge → Ready
  edge_at i a e = record {
    action = option_map (λ x. x.name) e.action;
    guard = guard_seen (names_in file v s i) e.guard;
    updates = map (update_at i a) e.destinations;
  }

  -- the edges of an element that start at its current location
  abbrev pub element_at : ℕ → Automaton → List Ready
  element_at i a = map (edge_at i a) (filter (λ e. is_current s i a e.location.name) a.edges)

  -- ---- transient variables
  abbrev pub given_in : Name → Option Location → Option syntax.Write
  given_in x None = None
  given_in x (Some l) = find (λ w. is_called x w.target) l.values

  -- what the current location of an element gives to a name
  abbrev pub given_at : Name → ℕ → Automaton → List Seen
  given_at x i a = map (λ w. see w.value (names_in file v s i)) (if_some (given_in x (current_location s i a)))

  -- the owner's location alone gives a value to an own variable, that of any element to a global one
  abbrev pub may_give : ℕ → Option ℕ → Bool
  may_give i None = true
  may_give i (Some k) = nat_eq i k

  abbrev pub given_to : Owned → ℕ → Automaton → List Seen
  given_to o i a = if may_give i o.owner then given_at o.var.name.name i a else []

  -- the first of some values, or a last resort
  abbrev pub first_or : Seen → List Seen → Seen
  first_or other [] = other
  first_or other (x ∷ xs) = x

  -- a transient variable: what the first element gives to it that does, else its first value
  abbrev pub transient_at : Owned → Seen
  transient_at o = first_or (start_of (constant_names file v) o.var.start) (numbered (given_to o) 0 (elements file))

-- ---- the file at the state
abbrev pub vector_of : syntax.Vector → Vector
vector_of v = record { parts = map (option_map (λ x. x.name)) v.parts; result = option_map (λ x. x.name) v.result }

abbrev pub moment : File → Valuation → Values → Moment
moment file v s = record {
  condition = condition_at file v s;
  elements = numbered (λ i a. element_at file v s i a ∷ []) 0 (elements file);
  vectors = map vector_of file.vectors;
  labels = map (transient_at file v s) (labels file);
  rewards = map (transient_at file v s) (structures file);
}
