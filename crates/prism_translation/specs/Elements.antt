-- The elements of a JANI file, their edges, and where its variables belong in a PRISM file (jani-model specification,
-- version 1: "Automata", "Edges", "Composition"; that a module of PRISM holds the variables that it alone writes, so that
-- its commands with an action may write them, is a rule of the PRISM manual, "The PRISM Language", "Global Variables").
use Rattle.std.specs.Prelude.{ℕ, List, [], ◌∷◌, ◌++◌, length, Bool, true, false, ◌&&◌, Option, Some, None, is_none, is_some, nat_eq, nat_lt}
use Rattle.std.specs.List.{filter, list_any}
use Rattle.std.specs.Option.{option_map}
use Rattle.process_core.specs.Ready.{Name}
use Rattle.process_core.specs.Instance.{numbered}
use Rattle.jani_tree.specs.Syntax.{Write, Edge, Automaton, File}
use Rattle.jani_meaning.specs.Elements as jani
use Rattle.jani_meaning.specs.Elements.{Owned, lasting, place_of, structure_number, is_owner}

-- ---- elements
-- an element: its number in the list of elements, and its automaton
pub record Element : Type 0 where
  pub number : ℕ
  pub automaton : Automaton

abbrev pub elements : File → List Element
elements file = numbered (λ k a. record { number = k; automaton = a } ∷ []) 0 (jani.elements file)

-- whether a location has to be told from others
abbrev pub has_several : Element → Bool
has_several el = nat_lt 1 (length el.automaton.locations)

-- ---- edges
-- the edges of an element: those of its automaton, in order
abbrev pub edges_of : Element → List Edge
edges_of el = el.automaton.edges

-- an edge at its place: its element, and its number among the edges of that
pub record Placed : Type 0 where
  pub element : Element
  pub number : ℕ
  pub edge : Edge

abbrev pub placed_edges : Element → List Placed
placed_edges el = numbered (λ i e. record { element = el; number = i; edge = e } ∷ []) 0 (edges_of el)

abbrev pub same_place : Placed → Placed → Bool
same_place p q = nat_eq p.element.number q.element.number && nat_eq p.number q.number

abbrev pub action_of : Edge → Option Name
action_of e = option_map (λ a. a.name) e.action

-- some assignment of some destination
abbrev pub some_write : (Write → Bool) → Edge → Bool
some_write wanted e = list_any (λ d. list_any wanted d.writes) e.destinations

-- it is to a numeric transient variable
abbrev pub is_reward : File → ℕ → Write → Bool
is_reward file k w = is_some (structure_number file k w.target.name)

-- the edge assigns a numeric transient variable
abbrev pub rewards : File → Placed → Bool
rewards file p = some_write (is_reward file p.element.number) p.edge

-- ---- variables that are not transient
-- a variable with its number among those of the file
pub record Lasting : Type 0 where
  pub number : ℕ
  pub owned : Owned

abbrev pub lasting_variables : File → List Lasting
lasting_variables file = numbered (λ i o. record { number = i; owned = o } ∷ []) 0 (lasting file)

-- an element may use its own variables and the global ones
abbrev pub may_use : ℕ → Option ℕ → Bool
may_use k None = true
may_use k (Some i) = nat_eq k i

abbrev pub is_at : ℕ → Option ℕ → Bool
is_at i None = false
is_at i (Some k) = nat_eq i k

-- the assignment is to the variable of this number
abbrev pub is_to : File → ℕ → ℕ → Write → Bool
is_to file i k w = is_at i (place_of (lasting file) k w.target.name)

-- the elements with an edge that assigns it; edges that never get to run count too
abbrev pub writers : File → ℕ → List Element
writers file i = filter (λ el. list_any (some_write (is_to file i el.number)) (edges_of el)) (elements file)

-- ---- homes
-- the element whose module has a global variable that these write: the one that alone writes it, the first element where
-- none does; no module has one that several write
abbrev pub shared_home : List Element → Option ℕ
shared_home [] = Some 0
shared_home (el ∷ []) = Some el.number
shared_home (el ∷ other ∷ more) = None

-- an element's own variable is at home there
abbrev pub home_by : List Element → Option ℕ → Option ℕ
home_by ws None = shared_home ws
home_by ws (Some k) = Some k

abbrev pub home : File → Lasting → Option ℕ
home file x = home_by (writers file x.number) x.owned.owner

-- the variables that stay global
abbrev pub shared : File → List Lasting
shared file = filter (λ x. is_none (home file x)) (lasting_variables file)

-- those of a module: the element's own, and then the global ones that are at home there
abbrev pub own : File → ℕ → List Lasting
own file k = filter (λ x. is_owner k x.owned.owner) (lasting_variables file)

abbrev pub adopted : File → ℕ → List Lasting
adopted file k = filter (λ x. is_none x.owned.owner && is_at k (home file x)) (lasting_variables file)

abbrev pub at_home : File → ℕ → List Lasting
at_home file k = own file k ++ adopted file k
