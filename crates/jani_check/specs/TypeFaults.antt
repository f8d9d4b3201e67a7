-- The faults of the types of a JANI file, and of what its edges and locations assign (jani-model specification, version 1:
-- "Types", "Expressions", "Constants", "Variables", "Automata", "Compositions").
use Rattle.std.specs.Prelude.{List, [], ◌∷◌, ◌++◌, map, Option, Some, None, Bool, true, false, not, ◌||◌, bytes_eq, if◌then◌else◌}
use Rattle.std.specs.List.{flat_map, filter, list_any}
use Rattle.bridge_io.specs.declared.reason.Named.{Named}
use Rattle.bridge_io.specs.declared.reason.Reason.{Reason}
use Rattle.bridge_io.specs.declared.reason.Reason.TheVariants.{LeftOut, WrongType, NotConstant, ForeignWrite, WrittenTwice, UnboundedVariable, RealVariable}
use Rattle.bridge_io.specs.declared.reason.Fault.{Fault}
use Rattle.op_trees.specs.Types.{Types, type_in, misfits}
use Rattle.op_trees.specs.Names.{some_name, offset_of, is_called}
use Rattle.jani_table.specs.Operators.{jani_meaning}
use Rattle.jani_tree.specs.Syntax.{Expression, VarKind, boolean, integer, number, real_bounded, one_sided, bounded, Var, Write, Edge, Automaton, Vector, File, element_names}
use Rattle.name_rules.specs.Least.{fault, fault_if}
use Rattle.jani_check.specs.Things.{automaton_called, global_thing, beside, thing_type, types_by, is_constant, is_lasting, is_transient}
use Rattle.name_rules.specs.Names.{Name}
use Rattle.jani_check.specs.declared.things.Thing.{Thing}
use Rattle.op_trees.specs.declared.wanted.Wanted.{Wanted}
use Rattle.op_trees.specs.declared.wanted.Wanted.TheVariants as W
use Rattle.basics.specs.Options.{if_some}
use Rattle.op_trees.specs.Wanted.{wanted_by, is_unwanted}
use Rattle.jani_check.specs.Demands.{Demand, fixed, varying, assigned, given, automaton_demands, outer_demands}
use Rattle.name_rules.specs.Doubled.{doubled}

-- ---- kinds of variables: a variable that is not transient is a bool or an int with both bounds, a transient one has no
-- bounds

abbrev pub kind_fault : Bool → VarKind → Option Reason
kind_fault true boolean = None
kind_fault true integer = None
kind_fault true number = None
kind_fault true real_bounded = Some LeftOut
kind_fault true one_sided = Some LeftOut
kind_fault true (bounded low high) = Some LeftOut
kind_fault false boolean = None
kind_fault false integer = Some UnboundedVariable
kind_fault false number = Some RealVariable
kind_fault false real_bounded = Some RealVariable
kind_fault false one_sided = Some UnboundedVariable
kind_fault false (bounded low high) = None

abbrev pub var_faults : Var → List Fault
var_faults x = map (fault x.kind_at) (if_some (kind_fault x.transient x.kind))

-- ---- types of expressions

-- at each node whose operands have types and which has none, and at an expression whose type is not the wanted one
abbrev pub type_faults_of : Types → Wanted → Expression → List Fault
type_faults_of ty w e =
    map (λ at. fault at WrongType) (misfits jani_meaning ty e)
    ++ fault_if (is_unwanted w (type_in jani_meaning ty e)) (offset_of e) WrongType

-- ---- expressions that have to be constant

abbrev pub is_variable : Option Thing → Bool
is_variable t = is_lasting t || is_transient t

abbrev pub has_variable : (Name → Option Thing) → Expression → Bool
has_variable things e = some_name (λ x. is_variable (things x)) e

-- ---- what is assigned

-- what is assigned to a thing has to be of its type, also where it may not be assigned
abbrev pub wanted_at : Option Thing → Wanted
wanted_at None = W.Anything
wanted_at (Some t) = wanted_by (thing_type t)

-- An edge may not assign to a constant, and a location gives values to transient variables alone.
abbrev pub demand_faults : (Name → Option Thing) → Demand → List Fault
demand_faults things (fixed w e) = type_faults_of (types_by things) w e ++ fault_if (has_variable things e) (offset_of e) NotConstant
demand_faults things (varying w e) = type_faults_of (types_by things) w e
demand_faults things (assigned w) =
    fault_if (is_constant (things w.target.name)) w.target.at ForeignWrite
    ++ type_faults_of (types_by things) (wanted_at (things w.target.name)) w.value
demand_faults things (given w) =
    fault_if (not (is_transient (things w.target.name))) w.target.at ForeignWrite
    ++ type_faults_of (types_by things) (wanted_at (things w.target.name)) w.value

-- ---- what is assigned twice

abbrev pub targets : List Write → List Named
targets ws = map (λ w. w.target) ws

-- in one location, or in one destination of an edge
abbrev pub repeated : List Write → List Fault
repeated ws = doubled WrittenTwice (targets ws)

abbrev pub edge_repeats : Edge → List Fault
edge_repeats e = flat_map (λ d. repeated d.writes) e.destinations

abbrev pub repeated_writes : Automaton → List Fault
repeated_writes a = flat_map (λ l. repeated l.values) a.locations ++ flat_map edge_repeats a.edges

-- in an automaton, by what names stand for outside of it
abbrev pub automaton_faults : (Name → Option Thing) → Automaton → List Fault
automaton_faults global a =
    flat_map var_faults a.variables
    ++ (flat_map (demand_faults (beside global a.variables)) (automaton_demands a) ++ repeated_writes a)

-- ---- what the participants of a vector assign

-- an edge has this action
abbrev pub has_action : Name → Edge → Bool
has_action x e = list_any (is_called x) (if_some e.action)

-- what an edge assigns
abbrev pub edge_writes : Edge → List Write
edge_writes e = flat_map (λ d. d.writes) e.destinations

abbrev pub with_automaton : {X : Type 0} → (Automaton → X) → X → Option Automaton → X
with_automaton f none None = none
with_automaton f none (Some a) = f a

-- what an element takes part with: by its automaton and the action that the vector names; nothing where it names none
abbrev pub taken_part : {X : Type 0} → (Automaton → Name → X) → X → File → Named → Option Named → X
taken_part f none file element None = none
taken_part f none file element (Some n) = with_automaton (λ a. f a n.name) none (automaton_called file element.name)

-- for each element and its part of a vector
abbrev pub participants : {X : Type 0} → (Automaton → Name → X) → X → File → List Named → List (Option Named) → List X
participants f none file [] ps = []
participants f none file (e ∷ es) [] = []
participants f none file (e ∷ es) (p ∷ ps) = taken_part f none file e p ∷ participants f none file es ps

-- the names of such a kind that an edge assigns to
abbrev pub assigned_by : (Name → Bool) → Edge → List Name
assigned_by is_such e = filter is_such (map (λ w. w.target.name) (edge_writes e))

-- the same, if it has an action
abbrev pub edge_shared : (Name → Bool) → Edge → Name → List Name
edge_shared is_such e x = if has_action x e then assigned_by is_such e else []

-- global variables, but not transient ones, that the edges with an action assign
abbrev pub shared_by : (Name → Option Thing) → Automaton → Name → List Name
shared_by global a x = flat_map (λ e. edge_shared (λ y. is_lasting (global y)) e x) a.edges

-- some two of the lists have a name in common
abbrev pub meet : List (List Name) → Bool
meet [] = false
meet (xs ∷ rest) = list_any (λ x. list_any (list_any (bytes_eq x)) rest) xs || meet rest

-- two participants have edges of the named actions that assign one variable
abbrev pub clashing_writes : File → Vector → List Fault
clashing_writes file v = fault_if (meet (participants (shared_by (global_thing file)) [] file (element_names file) v.parts)) v.at WrittenTwice

abbrev pub type_faults : File → List Fault
type_faults file =
    flat_map var_faults file.variables
    ++ (flat_map (demand_faults (global_thing file)) (outer_demands file)
    ++ (flat_map (automaton_faults (global_thing file)) file.automata ++ flat_map (clashing_writes file) file.vectors))
