-- Values and trees without their places: two are the same where these are equal.
use Rattle.std.specs.Prelude.{◌≡◌, map, Option}
use Rattle.std.specs.Option.{option_map}
use Rattle.bridge_io.specs.declared.reason.Named.{Named}
use Rattle.decimal_json.specs.declared.tree.Json.{Json}
use Rattle.decimal_json.specs.Proper.{SameValue}
use Rattle.op_trees.specs.Tree.{bare}
use Rattle.op_trees.specs.Names.{bare_name}
use Rattle.jani_table.specs.Node.{Node, node, null, truth, number, text, array, object, Nodes, no_nodes, more_nodes, Fields, no_fields, field}
use Rattle.jani_tree.specs.Syntax.{Const, VarKind, boolean, integer, number as real, real_bounded, one_sided, bounded, Var, Write, Location, Destination, Edge, Automaton, Element, Vector, File}
use Rattle.jani_tree.specs.Jani.{IsFile}

-- a value with every offset 0
abbrev mutual
  pub bare_node : Node → Node
  bare_node (null at) = null 0
  bare_node (truth at b) = truth 0 b
  bare_node (number at d) = number 0 d
  bare_node (text at s) = text 0 s
  bare_node (array at vs) = array 0 (bare_nodes vs)
  bare_node (object at ms close) = object 0 (bare_fields ms) 0

  pub bare_nodes : Nodes → Nodes
  bare_nodes no_nodes = no_nodes
  bare_nodes (more_nodes v vs) = more_nodes (bare_node v) (bare_nodes vs)

  pub bare_fields : Fields → Fields
  bare_fields no_fields = no_fields
  bare_fields (field n v rest) = field (bare_name n) (bare_node v) (bare_fields rest)

-- a tree with every offset 0

abbrev pub bare_const : Const → Const
bare_const c = record { name = bare_name c.name; ty = c.ty; value = option_map bare c.value; note = c.note }

abbrev pub bare_kind : VarKind → VarKind
bare_kind (bounded low high) = bounded (bare low) (bare high)
bare_kind boolean = boolean
bare_kind integer = integer
bare_kind real = real
bare_kind real_bounded = real_bounded
bare_kind one_sided = one_sided

abbrev pub bare_var : Var → Var
bare_var x = record { name = bare_name x.name; kind = bare_kind x.kind; kind_at = 0; transient = x.transient; start = option_map bare x.start; note = x.note }

abbrev pub bare_write : Write → Write
bare_write w = record { target = bare_name w.target; value = bare w.value }

abbrev pub bare_location : Location → Location
bare_location l = record { name = bare_name l.name; values = map bare_write l.values }

abbrev pub bare_destination : Destination → Destination
bare_destination d = record { location = bare_name d.location; weight = option_map bare d.weight; writes = map bare_write d.writes }

abbrev pub bare_edge : Edge → Edge
bare_edge e = record {
  location = bare_name e.location;
  action = option_map bare_name e.action;
  guard = option_map bare e.guard;
  destinations = map bare_destination e.destinations;
  at = 0;
}

abbrev pub bare_automaton : Automaton → Automaton
bare_automaton a = record {
  name = bare_name a.name;
  variables = map bare_var a.variables;
  locations = map bare_location a.locations;
  initial = map bare_name a.initial;
  edges = map bare_edge a.edges;
}

abbrev pub bare_element : Element → Element
bare_element e = record { name = bare_name e.name; enable = map bare_name e.enable }

abbrev pub bare_part : Option Named → Option Named
bare_part p = option_map bare_name p

abbrev pub bare_vector : Vector → Vector
bare_vector x = record { parts = map bare_part x.parts; result = option_map bare_name x.result; at = 0 }

abbrev pub bare_file : File → File
bare_file f = record {
  actions = map bare_name f.actions;
  constants = map bare_const f.constants;
  variables = map bare_var f.variables;
  restrict = option_map bare f.restrict;
  automata = map bare_automaton f.automata;
  elements = map bare_element f.elements;
  elements_at = 0;
  vectors = map bare_vector f.vectors;
  properties = bare_node f.properties;
}

-- What a value spells does not depend on places.
abbrev pub PlacesApart : Type 0
PlacesApart = (v : Node) (f : File) → IsFile v f → IsFile (bare_node v) (bare_file f)

-- Values that are the same but for their places spell one tree at most, places apart.
abbrev pub SameTree : Type 0
SameTree = (x y : Json) (f g : File) → SameValue x y → IsFile (node x) f → IsFile (node y) g → bare_file f ≡ bare_file g

-- the same of their data
abbrev pub OneTree : Type 0
OneTree = (v w : Node) (f g : File) → bare_node v ≡ bare_node w → IsFile v f → IsFile w g → bare_file f ≡ bare_file g
