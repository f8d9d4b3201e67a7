-- The trees of JANI files without the addresses of their boxes (jani-model specification, version 1), and the tree that the
-- code holds.
use Rattle.std.specs.Prelude.{ℕ, List, [], map, Bool, false, Option}
use Rattle.std.specs.Option.{option_map}
use Rattle.bridge_io.specs.declared.reason.Named.{Named}
use Rattle.op_trees.specs.declared.tree.Ty.{Ty}
use Rattle.op_trees.specs.Tree.{Tree, Truth, Number, Name, One, Two, Three, tree}
use Rattle.jani_table.specs.declared.operator.JaniOp.{JaniOp}
use Rattle.jani_table.specs.Node.{Node, node}
use Rattle.jani_tree.specs.declared.syntax.JaniFile.{JaniFile}
use Rattle.jani_tree.specs.declared.syntax.JaniConst.{JaniConst}
use Rattle.jani_tree.specs.declared.syntax.JaniVar.{JaniVar}
use Rattle.jani_tree.specs.declared.syntax.JaniKind.{JaniKind}
use Rattle.jani_tree.specs.declared.syntax.JaniKind.TheVariants as V
use Rattle.jani_tree.specs.declared.syntax.JaniAutomaton.{JaniAutomaton}
use Rattle.jani_tree.specs.declared.syntax.JaniLocation.{JaniLocation}
use Rattle.jani_tree.specs.declared.syntax.JaniWrite.{JaniWrite}
use Rattle.jani_tree.specs.declared.syntax.JaniEdge.{JaniEdge}
use Rattle.jani_tree.specs.declared.syntax.JaniDestination.{JaniDestination}
use Rattle.jani_tree.specs.declared.syntax.JaniElement.{JaniElement}
use Rattle.jani_tree.specs.declared.syntax.JaniVector.{JaniVector}

abbrev pub Expression : Type 0
Expression = Tree JaniOp

-- the literal true
abbrev pub is_always : Expression → Bool
is_always (Truth at b) = b
is_always (Number _ _) = false
is_always (Name _ _) = false
is_always (One _ _ _) = false
is_always (Two _ _ _ _) = false
is_always (Three _ _ _ _ _) = false

pub record Const : Type 0 where
  pub name : Named
  pub ty : Ty
  pub value : Option Expression
  pub note : Option (List ℕ)

-- the type of a variable
pub data VarKind : Type 0 where
  boolean : VarKind
  integer : VarKind
  number : VarKind
  real_bounded : VarKind
  one_sided : VarKind
  bounded : Expression → Expression → VarKind

pub record Var : Type 0 where
  pub name : Named
  pub kind : VarKind
  pub kind_at : ℕ
  pub transient : Bool
  pub start : Option Expression
  pub note : Option (List ℕ)

pub record Write : Type 0 where
  pub target : Named
  pub value : Expression

pub record Location : Type 0 where
  pub name : Named
  pub values : List Write

pub record Destination : Type 0 where
  pub location : Named
  pub weight : Option Expression
  pub writes : List Write

pub record Edge : Type 0 where
  pub location : Named
  pub action : Option Named
  pub guard : Option Expression
  pub destinations : List Destination
  pub at : ℕ

pub record Automaton : Type 0 where
  pub name : Named
  pub variables : List Var
  pub locations : List Location
  pub initial : List Named
  pub edges : List Edge

-- a part of the composition: the name of an automaton, and the actions that it accepts in each of its locations
pub record Element : Type 0 where
  pub name : Named
  pub enable : List Named

-- a part of the composition that accepts no action besides
abbrev pub plain_element : Named → Element
plain_element n = record { name = n; enable = [] }

pub record Vector : Type 0 where
  pub parts : List (Option Named)
  pub result : Option Named
  pub at : ℕ

pub record File : Type 0 where
  pub actions : List Named
  pub constants : List Const
  pub variables : List Var
  pub restrict : Option Expression
  pub automata : List Automaton
  pub elements : List Element
  pub elements_at : ℕ
  pub vectors : List Vector
  pub properties : Node

-- the automata that take part, in the order of the composition
abbrev pub element_names : File → List Named
element_names file = map (λ e. e.name) file.elements

-- ---- what the code holds

abbrev pub const_of : JaniConst → Const
const_of c = record { name = c.name; ty = c.ty; value = option_map tree c.value; note = c.note }

abbrev pub kind_of : JaniKind → VarKind
kind_of V.Bool = boolean
kind_of V.Int = integer
kind_of V.Real = number
kind_of V.RealBounded = real_bounded
kind_of V.OneSided = one_sided
kind_of (V.Bounded low high) = bounded (tree low) (tree high)

abbrev pub var_of : JaniVar → Var
var_of v = record { name = v.name; kind = kind_of v.kind; kind_at = v.kind_at; transient = v.transient; start = option_map tree v.start; note = v.note }

abbrev pub write_of : JaniWrite → Write
write_of w = record { target = w.target; value = tree w.value }

abbrev pub location_of : JaniLocation → Location
location_of l = record { name = l.name; values = map write_of l.values }

abbrev pub destination_of : JaniDestination → Destination
destination_of d = record { location = d.location; weight = option_map tree d.weight; writes = map write_of d.writes }

abbrev pub edge_of : JaniEdge → Edge
edge_of e = record { location = e.location; action = e.action; guard = option_map tree e.guard; destinations = map destination_of e.destinations; at = e.at }

abbrev pub automaton_of : JaniAutomaton → Automaton
automaton_of a = record {
  name = a.name;
  variables = map var_of a.variables;
  locations = map location_of a.locations;
  initial = a.initial;
  edges = map edge_of a.edges;
}

abbrev pub element_of : JaniElement → Element
element_of e = record { name = e.name; enable = e.enable }

abbrev pub vector_of : JaniVector → Vector
vector_of v = record { parts = v.parts; result = v.result; at = v.at }

abbrev pub file_of : JaniFile → File
file_of f = record {
  actions = f.actions;
  constants = map const_of f.constants;
  variables = map var_of f.variables;
  restrict = option_map tree f.restrict;
  automata = map automaton_of f.automata;
  elements = map element_of f.elements;
  elements_at = f.elements_at;
  vectors = map vector_of f.vectors;
  properties = node f.properties;
}
