-- What the values that the code holds stand for.
use Rattle.std.specs.Prelude.{◌≡◌, ℕ, List, [], ◌∷◌, map, length, Bool, nat_eq, unwrap_or}
use Rattle.std.specs.List.{position, All}
use Rattle.std.specs.Option.{option_or}
use Rattle.process_core.specs.Ready.{Name}
use Rattle.jani_tree.specs.Syntax.{File, Automaton, file_of}
use Rattle.op_trees.specs.Names.{is_called}
use Rattle.jani_loops.specs.Elements.{element_view}
use Rattle.jani_meaning.specs.Elements.{Owned, lasting, place_of}
use Rattle.jani_meaning.specs.Scene.{has_condition}
use Rattle.name_rules.specs.Names.{under}
use Rattle.name_table.specs.JaniParts.{owned_of}
use Rattle.process_core.specs.Instance.{numbered}
use Rattle.edge_tables.specs.Elements.{Lasting, Element}
use Rattle.name_table.specs.PrismAsks.{NewNames, name_at_some}
use Rattle.edge_tables.specs.Targets.{targets}
use Rattle.edge_tables.specs.Places.{place_in}
use Rattle.module_parts.specs.declared.entries.Classes.{Classes}
use Rattle.module_parts.specs.declared.entries.Names.{Names}
use Rattle.module_parts.specs.declared.parts.LastingVar.{LastingVar}
use Rattle.module_parts.specs.declared.element.Element.{Element as CodeElement}

-- ---- new names
abbrev pub file_in : Names → File
file_in n = file_of n.file.now

abbrev pub classes_in : Classes → NewNames
classes_in c = record {
  constants = c.constants.now;
  variables = c.variables.now;
  locations = c.locations.now;
  modules = c.modules.now;
  labels = c.labels.now;
  rewards = c.rewards.now;
  actions = c.actions.now;
}

abbrev pub names_in : Names → NewNames
names_in n = classes_in n.entries

-- what the name of a constant becomes
abbrev pub constant_in : Names → Name → Name
constant_in n x = unwrap_or (name_at_some n.entries.constants.now (under n.constants x)) []

-- what a name becomes in an element
abbrev pub value_in : Names → ℕ → Name → Name
value_in n k x = unwrap_or (option_or (name_at_some n.entries.variables.now (place_in n.lasting k x)) (name_at_some n.entries.constants.now (under n.constants x))) []

-- the numbers are those of the file, and so is what is said of an initial condition
pub record IsReady (n : Names) : Type 0 where
  pub lasting_are : (k : ℕ) (x : Name) → place_in n.lasting k x ≡ place_of (lasting (file_in n)) k x
  pub constants_are : (x : Name) → under n.constants x ≡ position (λ c. is_called x c.name) (file_in n).constants
  pub condition_is : n.has_condition ≡ has_condition (file_in n)

-- ---- variables
-- a variable that is not transient, with its number
abbrev pub lasting_of : LastingVar → Lasting
lasting_of x = record { number = x.number; owned = owned_of x.owned }

abbrev pub lasting_with : ℕ → Owned → List Lasting
lasting_with i o = record { number = i; owned = o } ∷ []

-- ---- elements
abbrev pub element_of : CodeElement → Element
element_of el = record { number = el.number; automaton = element_view el.automaton }

-- these are the numbers of the locations
pub record IsElement (el : CodeElement) : Type 0 where
  pub locations_are : (x : Name) → under el.locations x ≡ position (λ l. is_called x l.name) (element_of el).automaton.locations

-- an element of this number
abbrev pub element_with : ℕ → Automaton → List Element
element_with k a = record { number = k; automaton = a } ∷ []

-- these are the elements of these automata
pub record AreElements (els : List CodeElement) (automata : List Automaton) : Type 0 where
  pub elements_are : map element_of els ≡ numbered element_with 0 automata
  pub located : All IsElement els

-- ---- edges
abbrev pub is_one : {X : Type 0} → List X → Bool
is_one xs = nat_eq (length xs) 1

-- ---- actions
-- each target has an entry
pub record HasActions (n : Names) : Type 0 where
  pub actions_long : length (names_in n).actions ≡ length (targets (file_in n))
