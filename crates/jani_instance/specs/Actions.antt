-- The actions of an element and their numbers, what an edge needs to start at a location or to have an action, and what elements
-- and vectors are built of (jani-model specification, version 1: "Edges", "Composition").
use Rattle.std.specs.Prelude.{◌≡◌, ℕ, ◌+◌, ◌<◌, ◌^◌, List, [], ◌∷◌, ◌++◌, map, length, Bool, false, Option, Some, None, nat_eq, bytes_eq, option_copied, slice_get, unwrap_or, if◌then◌else◌}
use Rattle.std.specs.Borrow.{Bor}
use Rattle.std.specs.List.{AllZip, filter, flat_map, list_any, position}
use Rattle.std.specs.Option.{option_map}
use Rattle.bridge_io.specs.declared.reason.Named.{Named}
use Rattle.expr_store.specs.declared.node.Node.{Node}
use Rattle.jani_table.specs.declared.operator.JaniOp.{JaniOp}
use Rattle.gathering.specs.Lists.{list_for}
use Rattle.name_rules.specs.Names.{under}
use Rattle.basics.specs.Options.{if_some}
use Rattle.process_core.specs.Ready.{Name, firsts, same_label}
use Rattle.jani_tree.specs.declared.syntax.JaniEdge.{JaniEdge}
use Rattle.jani_tree.specs.Syntax as syntax
use Rattle.jani_tree.specs.Syntax.{Automaton, Expression, File, file_of}
use Rattle.op_trees.specs.Names.{is_called}
use Rattle.jani_meaning.specs.Elements.{elements, lasting, structures}
use Rattle.jani_instance.specs.Built.{IsElementOf, IsNamedElementOf, acts_with, global_place, global_structure, own_place, own_structure}
use Rattle.jani_instance.specs.Parts.{automaton_at, owned_at, place_under}
use Rattle.instance_start.specs.Numbered.{Numbered}
use Rattle.jani_instance.specs.Shapes.{Edge, Located, edge_by, location_in}
use Rattle.jani_instance.specs.declared.acting.ActionTable.{ActionTable}
use Rattle.jani_instance.specs.declared.acting.Basis.{Basis}
use Rattle.jani_instance.specs.declared.acting.Numbers.{Numbers}
use Rattle.jani_instance.specs.declared.build.Site.{Site}
use Rattle.jani_instance.specs.declared.data.Element.{Element}
use Rattle.jani_instance.specs.declared.data.NamedElement.{NamedElement}
use Rattle.jani_instance.specs.declared.data.Link.{Link}
use Rattle.jani_instance.specs.declared.located.Owning.{Owning}
use Rattle.jani_instance.specs.declared.data.Vector as code_vector

-- ---- the actions of an element
abbrev pub action_of : syntax.Edge → Option Name
action_of e = option_map (λ n. n.name) e.action

abbrev pub actions_among : List syntax.Edge → List Name
actions_among es = firsts bytes_eq (flat_map (λ e. if_some (action_of e)) es)

-- each once, in order of first occurrence
abbrev pub actions_of : Automaton → List Name
actions_of a = actions_among a.edges

-- this one besides, if it isn't there
abbrev pub with_action : Name → List Name → List Name
with_action x l = if list_any (bytes_eq x) l then l else l ++ x ∷ []

-- a table of these actions
pub record AreNumbered (l : List Name) (t : ActionTable) : Type 0 where
  pub count : t.count ≡ length l
  pub numbers : (x : Name) → under t.numbers x ≡ position (bytes_eq x) l

-- the numbers of an element's actions and locations
pub record IsNumbered (a : Automaton) (t : Numbers) : Type 0 where
  pub acts : AreNumbered (actions_of a) t.actions
  pub locations : (x : Name) → under t.locations x ≡ position (λ l. is_called x l.name) a.locations

abbrev pub number_in : ActionTable → Name → ℕ
number_in t x = unwrap_or (under t.numbers x) t.count

-- ---- edges by location and action
abbrev pub lent_edge : Bor JaniEdge → syntax.Edge
lent_edge e = syntax.edge_of e.now

abbrev pub starts_at : Site → ℕ → syntax.Edge → Bool
starts_at s n e = nat_eq n (location_in s e.location.name)

abbrev pub is_silent : syntax.Edge → Bool
is_silent e = same_label None (action_of e)

abbrev pub is_number : (Name → ℕ) → ℕ → Option Named → Bool
is_number number k None = false
is_number number k (Some x) = nat_eq k (number x.name)

abbrev pub acts_as : (Name → ℕ) → ℕ → syntax.Edge → Bool
acts_as number k e = is_number number k e.action

-- an edge as it is kept, if it has an action
abbrev pub acted_with : (Name → ℕ) → Site → Option Named → syntax.Edge → List (Numbered (Edge Expression))
acted_with number s None e = []
acted_with number s (Some x) e = record { number = number x.name; value = edge_by s e } ∷ []

abbrev pub acted_by : (Name → ℕ) → Site → syntax.Edge → List (Numbered (Edge Expression))
acted_by number s e = acted_with number s e.action e

-- these edges, as one location keeps them
abbrev pub located_among : Site → List syntax.Edge → Located Expression
located_among s es = record {
  silent = map (edge_by s) (filter is_silent es);
  parts = map (λ x. map (edge_by s) (filter (acts_with x) es)) (actions_of (automaton_at s.part));
}

abbrev pub located_at : Site → List syntax.Edge → ℕ → Located Expression
located_at s es n = located_among s (filter (starts_at s n) es)

-- ---- links of a vector
abbrev pub link_of : ℕ → ActionTable → Option Named → List Link
link_of i t None = []
link_of i t (Some x) = record { element = i; part = number_in t x.name } ∷ []

abbrev pub links_by : ℕ → List Numbers → List (Option Named) → List Link
links_by i [] ps = []
links_by i (t ∷ ts) [] = []
links_by i (t ∷ ts) (p ∷ ps) = link_of i t.actions p ++ links_by (i + 1) ts ps

-- a vector with these links
pub record IsLinked (ts : List Numbers) (v : syntax.Vector) (w : code_vector.Vector) : Type 0 where
  pub label : option_copied w.label ≡ option_map (λ x. x.name) v.result
  pub links : w.links.items ≡ links_by 0 ts v.parts

-- ---- what elements and vectors are built of
pub record IsBasis (b : Basis) : Type 0 where
  pub parts : map automaton_at b.parts.now ≡ elements (file_of b.file.now)
  pub acts : AllZip IsNumbered (elements (file_of b.file.now)) b.actions.now
  pub variables : map owned_at b.lasting.now ≡ lasting (file_of b.file.now)
  pub rewards : map owned_at b.structures.now ≡ structures (file_of b.file.now)
  pub global : (x : Name) → under b.places.now x ≡ global_place (file_of b.file.now) x
  pub room : length b.parts.now + length b.lasting.now < 2 ^ 64

-- what elements own, and what is global
pub record IsOwning (file : File) (o : Owning) : Type 0 where
  pub columns : (i : ℕ) (x : Name) → place_under x (list_for o.columns i) ≡ own_place file i x
  pub structures : (i : ℕ) (x : Name) → place_under x (list_for o.structures i) ≡ own_structure file i x
  pub global : (x : Name) → under o.global x ≡ global_structure file x

-- each element of the file
pub record AreNamedElementsOf (file : File) (es : List NamedElement) : Type 0 where
  pub count : length es ≡ length (elements file)
  pub built : (i : ℕ) (a : Automaton) (e : NamedElement) → slice_get (elements file) i ≡ Some a → slice_get es i ≡ Some e →
      IsNamedElementOf file (actions_of a) i a e

-- and once its names are resolved
pub record AreElementsOf (file : File) (ns : List (Node JaniOp)) (es : List Element) : Type 0 where
  pub count : length es ≡ length (elements file)
  pub built : (i : ℕ) (a : Automaton) (e : Element) → slice_get (elements file) i ≡ Some a → slice_get es i ≡ Some e →
      IsElementOf file ns (actions_of a) i a e
