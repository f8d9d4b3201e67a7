-- The elements of a JANI file and its variables, as the columns of its states, its labels and its reward structures
-- (jani-model specification, version 1: "Models", "Automata", "Composition", "Transient variables", "Types"). That boolean
-- transient variables are labels, that all other transient ones are reward structures, and the order of each, are rules of
-- this project.
use Rattle.std.specs.Prelude.{ℕ, ◌+◌, List, [], ◌∷◌, ◌++◌, map, length, Bool, true, false, not, ◌&&◌, Option, Some, None, is_none, nat_eq, unwrap_or}
use Rattle.std.specs.List.{find, filter, position}
use Rattle.std.specs.Option.{option_map, option_or}
use Rattle.bridge_io.specs.declared.reason.Named.{Named}
use Rattle.op_trees.specs.Names.{is_called}
use Rattle.process_core.specs.Ready.{Name}
use Rattle.jani_tree.specs.Syntax.{VarKind, boolean, integer, number, real_bounded, one_sided, bounded, Var, Automaton, Element, File, element_names}
use Rattle.jani_meaning.specs.Loops.{with_loops}
use Rattle.process_core.specs.Instance.{numbered}

-- ---- elements
-- an automaton of this name that has nothing
abbrev pub nothing_called : Named → Automaton
nothing_called n = record { name = n; variables = []; locations = []; initial = []; edges = [] }

-- the first automaton of this name; a file without fault has one
abbrev pub automaton_called : File → Named → Automaton
automaton_called file n = unwrap_or (find (λ a. is_called n.name a.name) file.automata) (nothing_called n)

-- an element as its automaton, whose edges are followed by the loops of the actions that the element accepts everywhere
abbrev pub element_automaton : File → Element → Automaton
element_automaton file e = with_loops e.enable (automaton_called file e.name)

-- the elements in order, each as an automaton; an automaton that is no element takes no part
abbrev pub elements : File → List Automaton
elements file = map (element_automaton file) file.elements

-- ---- locations
-- the number of a location in the list of its automaton: the first of this name, and 0 where there is none
abbrev pub location_number : Automaton → Name → ℕ
location_number a x = unwrap_or (position (λ l. is_called x l.name) a.locations) 0

abbrev pub first_number : Automaton → List Named → ℕ
first_number a [] = 0
first_number a (n ∷ ns) = location_number a n.name

-- the location that an automaton begins in, its first initial one
abbrev pub initial_number : Automaton → ℕ
initial_number a = first_number a a.initial

abbrev pub is_several : List Named → Bool
is_several [] = false
is_several (n ∷ []) = false
is_several (n ∷ m ∷ ns) = true

-- it may begin in several
abbrev pub has_several_starts : Automaton → Bool
has_several_starts a = is_several a.initial

-- ---- variables
-- a variable, and the number of the element that it belongs to; a global one belongs to none
pub record Owned : Type 0 where
  pub owner : Option ℕ
  pub var : Var

abbrev pub owned_by : Option ℕ → List Var → List Owned
owned_by owner vars = map (λ x. record { owner = owner; var = x }) vars

-- the global variables, then the own ones of each element, in order
abbrev pub variables : File → List Owned
variables file = owned_by None file.variables ++ numbered (λ i a. owned_by (Some i) a.variables) 0 (elements file)

abbrev pub is_boolean : VarKind → Bool
is_boolean boolean = true
is_boolean integer = false
is_boolean number = false
is_boolean real_bounded = false
is_boolean one_sided = false
is_boolean (bounded low high) = false

abbrev pub is_lasting : Owned → Bool
is_lasting o = not o.var.transient

abbrev pub is_label : Owned → Bool
is_label o = o.var.transient && is_boolean o.var.kind

abbrev pub is_structure : Owned → Bool
is_structure o = o.var.transient && not (is_boolean o.var.kind)

-- the variables that are not transient: each is a column
abbrev pub lasting : File → List Owned
lasting file = filter is_lasting (variables file)

abbrev pub labels : File → List Owned
labels file = filter is_label (variables file)

abbrev pub structures : File → List Owned
structures file = filter is_structure (variables file)

-- ---- names of variables
-- this element is the owner
abbrev pub is_owner : ℕ → Option ℕ → Bool
is_owner i None = false
is_owner i (Some k) = nat_eq i k

abbrev pub is_own : ℕ → Name → Owned → Bool
is_own i x o = is_owner i o.owner && is_called x o.var.name

abbrev pub is_global : Name → Owned → Bool
is_global x o = is_none o.owner && is_called x o.var.name

-- the place of the variable that a name stands for in an element: its own one, else the global one
abbrev pub place_of : List Owned → ℕ → Name → Option ℕ
place_of vars i x = option_or (position (is_own i x) vars) (position (is_global x) vars)

-- columns are the locations of the elements, and then the variables
abbrev pub column_number : File → ℕ → Name → Option ℕ
column_number file i x = option_map (λ k. length (element_names file) + k) (place_of (lasting file) i x)

abbrev pub structure_number : File → ℕ → Name → Option ℕ
structure_number file i x = place_of (structures file) i x
