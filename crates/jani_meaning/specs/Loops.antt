-- The loops of an element, which accept the actions of its "input-enable" where none of its edges does (jani-model
-- specification, version 1: "Composition"). That they follow the automaton's own edges, action by action and in each location by
-- location, is a rule of this project.
use Rattle.std.specs.Prelude.{List, [], ◌∷◌, ◌++◌, map, Bool, true, false, ◌&&◌, Option, Some, None}
use Rattle.std.specs.List.{filter, flat_map}
use Rattle.bridge_io.specs.declared.reason.Named.{Named}
use Rattle.op_trees.specs.Names.{is_called}
use Rattle.op_trees.specs.Tree.{Truth, One, Two}
use Rattle.process_core.specs.Ready.{Name}
use Rattle.jani_tree.specs.JaniOp.TheVariants.{Or, Not}
use Rattle.jani_tree.specs.Syntax.{Expression, Location, Edge, Automaton}

-- ---- guards
-- a missing guard is true
abbrev pub or_true : Option Expression → Expression
or_true None = Truth 0 true
or_true (Some g) = g

-- a guard or one of others, joined from the left
abbrev pub either : Expression → List Expression → Expression
either g [] = g
either g (h ∷ hs) = either (Two 0 Or g h) hs

-- the guard of what is to be done where none of these holds; none where there are none
abbrev pub none_of : List Expression → Option Expression
none_of [] = None
none_of (g ∷ gs) = Some (One 0 Not (either g gs))

-- ---- loops
abbrev pub has_name : Name → Option Named → Bool
has_name x None = false
has_name x (Some n) = is_called x n

-- an edge with this action that starts at this location
abbrev pub is_with : Name → Name → Edge → Bool
is_with action location e = has_name action e.action && is_called location e.location

-- the loop with an action at a location: it stays there, assigns nothing, and serves where no edge with that action does
abbrev pub loop_at : Automaton → Named → Location → Edge
loop_at a x l = record {
  location = l.name;
  action = Some x;
  guard = none_of (map (λ e. or_true e.guard) (filter (is_with x.name l.name.name) a.edges));
  destinations = record { location = l.name; weight = None; writes = [] } ∷ [];
  at = x.at;
}

abbrev pub loops : List Named → Automaton → List Edge
loops actions a = flat_map (λ x. map (loop_at a x) a.locations) actions

-- an automaton as an element that accepts these actions: its own edges, and then the loops
abbrev pub with_loops : List Named → Automaton → Automaton
with_loops [] a = a
with_loops (x ∷ xs) a = record {
  name = a.name;
  variables = a.variables;
  locations = a.locations;
  initial = a.initial;
  edges = a.edges ++ loops (x ∷ xs) a;
}
