-- What the program keeps of edges and transient variables, with the numbers of the columns, structures, locations and elements that
-- they name (jani-model specification, version 1: "Edges", "Transient variables").
use Rattle.std.specs.Prelude.{ℕ, List, [], ◌∷◌, map, Option, Some, None, Result, unwrap_or}
use Rattle.std.specs.Borrow.{Bor}
use Rattle.std.specs.List.{flat_map}
use Rattle.std.specs.Option.{option_map, option_or}
use Rattle.op_trees.specs.Tree.{tree}
use Rattle.op_trees.specs.declared.tree.EvalFail.{EvalFail}
use Rattle.op_trees.specs.declared.tree.Expr.{Expr}
use Rattle.op_trees.specs.declared.tree.Value.{Value}
use Rattle.name_rules.specs.Names.{under}
use Rattle.process_core.specs.Ready.{Name}
use Rattle.state_choices.specs.Trimmed.{computed}
use Rattle.jani_table.specs.declared.operator.JaniOp.{JaniOp}
use Rattle.jani_tree.specs.Syntax as syntax
use Rattle.jani_tree.specs.Syntax.{Automaton, Expression, File, Write}
use Rattle.jani_meaning.specs.Scene.{counted}
use Rattle.instance_start.specs.Numbered.{Numbered, by_number}
use Rattle.instance_start.specs.declared.data.Place.{Place}
use Rattle.instance_start.specs.declared.data.Place.TheVariants.{Constant, Variable}
use Rattle.jani_instance.specs.declared.build.Site.{Site}
use Rattle.jani_instance.specs.declared.data.Acting as code_acting
use Rattle.jani_instance.specs.declared.data.Assignment as code_assignment
use Rattle.jani_instance.specs.declared.data.Destination as code_destination
use Rattle.jani_instance.specs.declared.data.Edge as code_edge
use Rattle.jani_instance.specs.declared.data.Giver as code_giver
use Rattle.jani_instance.specs.declared.data.Located as code_located
use Rattle.jani_instance.specs.declared.data.Transient as code_transient

pub record Assigned (X : Type 0) : Type 0 where
  pub place : ℕ
  pub value : X

pub record Destination (X : Type 0) : Type 0 where
  pub location : Result Value EvalFail
  pub weight : Option X
  pub writes : List (Assigned X)
  pub rewards : List (Assigned X)

pub record Edge (X : Type 0) : Type 0 where
  pub guard : Option X
  pub destinations : List (Destination X)

pub record Located (X : Type 0) : Type 0 where
  pub silent : List (Edge X)
  pub parts : List (List (Edge X))

-- what a location of an element gives
pub record Giver (X : Type 0) : Type 0 where
  pub element : ℕ
  pub location : ℕ
  pub value : X

pub record Transient (X : Type 0) : Type 0 where
  pub name : Name
  pub start : Result Value EvalFail
  pub givers : List (Giver X)

-- ---- what the program's data stands for, where its expressions are looked at so
module _ {E X : Type 0} (look : E → X) where
  abbrev pub assigned_as : code_assignment.Assignment E → Assigned X
  assigned_as w = record { place = w.place; value = look w.value }

  abbrev pub destination_as : code_destination.Destination E → Destination X
  destination_as d = record {
    location = d.location;
    weight = option_map look d.weight;
    writes = map assigned_as d.writes.items;
    rewards = map assigned_as d.rewards.items;
  }

  abbrev pub edge_as : code_edge.Edge E → Edge X
  edge_as e = record { guard = option_map look e.guard; destinations = map destination_as e.destinations.items }

  abbrev pub acting_as : code_acting.Acting E → Numbered (Edge X)
  acting_as a = record { number = a.action; value = edge_as a.edge }

  abbrev pub located_as : code_located.Located E → Located X
  located_as l = record { silent = map edge_as l.silent.items; parts = by_number l.actions (map acting_as l.acting.items) }

-- and in each element in its own way
module _ {E X : Type 0} (look : ℕ → E → X) where
  abbrev pub giver_as : code_giver.Giver E → Giver X
  giver_as g = record { element = g.element; location = g.location; value = look g.element g.value }

  abbrev pub transient_as : code_transient.Transient E → Transient X
  transient_as t = record { name = t.name.now; start = t.start; givers = map giver_as t.givers.items }

-- an expression that is lent from the file
abbrev pub Lent : Type 0
Lent = Bor (Expr JaniOp)

abbrev pub tree_at : Lent → Expression
tree_at e = tree e.now

abbrev pub assigned_of : code_assignment.Assignment Lent → Assigned Expression
assigned_of = assigned_as tree_at

abbrev pub destination_of : code_destination.Destination Lent → Destination Expression
destination_of = destination_as tree_at

abbrev pub edge_of : code_edge.Edge Lent → Edge Expression
edge_of = edge_as tree_at

abbrev pub acting_of : code_acting.Acting Lent → Numbered (Edge Expression)
acting_of = acting_as tree_at

abbrev pub located_of : code_located.Located Lent → Located Expression
located_of = located_as tree_at

abbrev pub giver_at : code_giver.Giver Lent → Giver Expression
giver_at = giver_as (λ i. tree_at)

abbrev pub transient_at : code_transient.Transient Lent → Transient Expression
transient_at = transient_as (λ i. tree_at)

-- ---- what it is of the file's data
-- the number of the variable at a place
abbrev pub variable_at : Option Place → Option ℕ
variable_at None = None
variable_at (Some (Constant k)) = None
variable_at (Some (Variable k)) = Some k

abbrev pub column_in : Site → Name → Option ℕ
column_in s x = variable_at (option_or (under s.own.now x) (under s.places.now x))

abbrev pub location_in : Site → Name → ℕ
location_in s x = unwrap_or (under s.locations.now x) 0

abbrev pub structure_in : Site → Name → Option ℕ
structure_in s x = variable_at (option_or (under s.own_structures.now x) (under s.structures.now x))

abbrev pub assigned_to : Option ℕ → Expression → List (Assigned Expression)
assigned_to None e = []
assigned_to (Some k) e = record { place = k; value = e } ∷ []

abbrev pub assigned_by : (Name → Option ℕ) → Write → List (Assigned Expression)
assigned_by number w = assigned_to (number w.target.name) w.value

abbrev pub destination_by : Site → syntax.Destination → Destination Expression
destination_by s d = record {
  location = computed (counted (location_in s d.location.name));
  weight = d.weight;
  writes = flat_map (assigned_by (column_in s)) d.writes;
  rewards = flat_map (assigned_by (structure_in s)) d.writes;
}

abbrev pub edge_by : Site → syntax.Edge → Edge Expression
edge_by s e = record { guard = e.guard; destinations = map (destination_by s) e.destinations }
