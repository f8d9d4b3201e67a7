-- The faults of the names of a JANI file (jani-model specification, version 1: "Constants", "Variables", "Automata",
-- "Compositions").
use Rattle.std.specs.Prelude.{ℕ, zero, suc, List, ◌∷◌, ◌++◌, map, length, Bool, not, ◌||◌, bytes_eq, is_some, nat_eq}
use Rattle.std.specs.List.{flat_map, filter, list_any}
use Rattle.bridge_io.specs.declared.reason.Named.{Named}
use Rattle.bridge_io.specs.declared.reason.Reason.TheVariants.{TwiceNamed, Cycle, Nothing, BadVector, RepeatedAutomaton}
use Rattle.bridge_io.specs.declared.reason.Fault.{Fault}
use Rattle.jani_tree.specs.Syntax.{Const, Var, Edge, Automaton, Element, Vector, File, element_names}
use Rattle.name_rules.specs.Least.{fault_if}
use Rattle.name_rules.specs.Names.{Name}
pub use Rattle.name_rules.specs.Names.{is_among}
pub use Rattle.name_rules.specs.Unknown.{unless_known}
pub use Rattle.name_rules.specs.Doubled.{clash, doubled_after, doubled}
use Rattle.op_trees.specs.Names.{names_of, is_called}
use Rattle.basics.specs.Options.{if_some}
use Rattle.jani_check.specs.Demands.{Demand, fixed, varying, assigned, given, automaton_demands, outer_demands}

-- ---- names that are declared twice

abbrev pub var_names : List Var → List Named
var_names vars = map (λ x. x.name) vars

-- constants and global variables, which share their names
abbrev pub global_names : File → List Named
global_names file = map (λ c. c.name) file.constants ++ var_names file.variables

abbrev pub location_names : Automaton → List Named
location_names a = map (λ l. l.name) a.locations

abbrev pub automaton_names : File → List Named
automaton_names file = map (λ a. a.name) file.automata

-- the variables of an automaton, among themselves and beside the global names, its locations, and those that it may begin in;
-- two automata may use one name
abbrev pub doubled_in : List Named → Automaton → List Fault
doubled_in global a =
    doubled_after TwiceNamed global (var_names a.variables) ++ (doubled TwiceNamed (location_names a) ++ doubled TwiceNamed a.initial)

-- the names in each list of actions that an element accepts everywhere, among themselves
abbrev pub repeated_enabled : Element → List Fault
repeated_enabled e = doubled TwiceNamed e.enable

abbrev pub doubled_names : File → List Fault
doubled_names file =
    doubled TwiceNamed (global_names file)
    ++ (doubled TwiceNamed file.actions
    ++ (doubled TwiceNamed (automaton_names file)
    ++ (flat_map (doubled_in (global_names file)) file.automata
    ++ flat_map repeated_enabled file.elements)))

-- ---- names that are not declared

-- the names that a demand uses
abbrev pub names_used : Demand → List Named
names_used (fixed w e) = names_of e
names_used (varying w e) = names_of e
names_used (assigned w) = w.target ∷ names_of w.value
names_used (given w) = w.target ∷ names_of w.value

abbrev pub unknown_by : (Name → Bool) → Demand → List Fault
unknown_by known d = flat_map (unless_known known) (names_used d)

-- the locations that an edge names
abbrev pub edge_locations : Edge → List Named
edge_locations e = e.location ∷ map (λ d. d.location) e.destinations

-- the locations that an automaton names
abbrev pub locations_used : Automaton → List Named
locations_used a = a.initial ++ flat_map edge_locations a.edges

abbrev pub actions_used : Automaton → List Named
actions_used a = flat_map (λ e. if_some e.action) a.edges

-- the locations and the actions that an automaton names
abbrev pub unknown_within : (Name → Bool) → Automaton → List Fault
unknown_within actions a =
    flat_map (unless_known (is_among (location_names a))) (locations_used a) ++ flat_map (unless_known actions) (actions_used a)

-- in an automaton, whose own variables are known beside the global names
abbrev pub unknown_in : (Name → Bool) → (Name → Bool) → Automaton → List Fault
unknown_in global actions a =
    flat_map (unknown_by (λ x. global x || is_among (var_names a.variables) x)) (automaton_demands a) ++ unknown_within actions a

-- the actions that a vector names
abbrev pub vector_actions : Vector → List Named
vector_actions v = flat_map if_some v.parts ++ if_some v.result

-- the actions that an element accepts everywhere
abbrev pub unknown_enabled : (Name → Bool) → Element → List Fault
unknown_enabled actions e = flat_map (unless_known actions) e.enable

abbrev pub unknown_names : File → List Fault
unknown_names file =
    flat_map (unknown_by (is_among (global_names file))) (outer_demands file)
    ++ (flat_map (unknown_in (is_among (global_names file)) (is_among file.actions)) file.automata
    ++ (flat_map (unless_known (is_among (automaton_names file))) (element_names file)
    ++ (flat_map (unless_known (is_among file.actions)) (flat_map vector_actions file.vectors)
    ++ flat_map (unknown_enabled (is_among file.actions)) file.elements)))

-- ---- constants that depend on themselves

-- the names in the value of a constant
abbrev pub uses : Const → List Name
uses c = map (λ n. n.name) (flat_map names_of (if_some c.value))

-- the names in the values of all constants of this name
abbrev pub uses_of : List Const → Name → List Name
uses_of cs x = flat_map uses (filter (λ c. is_called x c.name) cs)

-- one name is the other, or leads to it in at most so many steps
abbrev pub leads_to : List Const → ℕ → Name → Name → Bool
leads_to cs zero x y = bytes_eq x y
leads_to cs (suc n) x y = bytes_eq x y || list_any (λ z. leads_to cs n z y) (uses_of cs x)

abbrev pub is_circular : List Const → Const → Bool
is_circular cs c = list_any (λ x. leads_to cs (length cs) x c.name.name) (uses c)

abbrev pub circular : List Const → Const → List Fault
circular cs c = fault_if (is_circular cs c) c.name.at Cycle

abbrev pub circles : File → List Fault
circles file = flat_map (circular file.constants) file.constants

-- ---- the composition

-- an automaton takes part once
abbrev pub repeated_elements : File → List Fault
repeated_elements file = doubled RepeatedAutomaton (element_names file)

abbrev pub no_element : File → List Fault
no_element file = fault_if (nat_eq (length (element_names file)) 0) file.elements_at Nothing

-- a vector has a part for each of so many elements, and some element takes part
abbrev pub bad_vector : ℕ → Vector → List Fault
bad_vector elements v = fault_if (not (nat_eq (length v.parts) elements) || not (list_any is_some v.parts)) v.at BadVector

abbrev pub composition_faults : File → List Fault
composition_faults file = repeated_elements file ++ (no_element file ++ flat_map (bad_vector (length (element_names file))) file.vectors)

abbrev pub name_faults : File → List Fault
name_faults file = doubled_names file ++ (unknown_names file ++ (circles file ++ composition_faults file))
