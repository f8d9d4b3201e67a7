-- The canonical value of a tree: the members of each object in one order, and those left out that a tree has no need of. Names,
-- expressions and the lists whose offset a tree keeps stand at their own offsets, all else at 0.
use Rattle.std.specs.Prelude.{◌≡◌, ℕ, pos, List, [], ◌∷◌, map, codes, Bool, true, false, Option, Some, None}
use Rattle.std.specs.Option.{option_map}
use Rattle.std.specs.List.{AllByRecursion as OfAll}
use Rattle.basics.specs.Options.{IfAny as OfSome}
use Rattle.bridge_io.specs.declared.reason.Named.{Named}
use Rattle.op_trees.specs.declared.tree.Ty.TheVariants as T
use Rattle.op_trees.specs.Names as Walks
use Rattle.op_trees.specs.Tree.{Truth, Number, Name, One, Two, Three}
use Rattle.jani_table.specs.declared.key.Key.{Key}
use Rattle.jani_table.specs.declared.key.Key.TheVariants as K
use Rattle.jani_table.specs.declared.words.Feature.TheVariants.{DerivedOperators, StateExitRewards}
use Rattle.jani_table.specs.Node.{Node, null, truth, number, text, array, object, Fields, no_fields, field, nodes_of}
use Rattle.jani_table.specs.Table.{spelled}
use Rattle.jani_table.specs.Words.{ty_text, feature_text}
use Rattle.jani_table.specs.Operators.{op_text, arity}
use Rattle.jani_tree.specs.Syntax.{Expression, is_always, Const, VarKind, boolean, integer, number as real, real_bounded, one_sided, bounded, Var, Write, Location, Destination, Edge, Automaton, Element, Vector, File}

-- ---- objects and lists

-- with a member at the end
abbrev pub with_entry : Fields → Key → Node → Fields
with_entry no_fields k v = field (record { name = spelled k; at = 0 }) v no_fields
with_entry (field n w rest) k v = field n w (with_entry rest k v)

-- the same, if there is a value
abbrev pub with_maybe : Fields → Key → Option Node → Fields
with_maybe ms k None = ms
with_maybe ms k (Some v) = with_entry ms k v

abbrev pub with_members : Fields → List (Key × Option Node) → Fields
with_members ms [] = ms
with_members ms (m ∷ rest) = with_members (with_maybe ms m.0 m.1) rest

-- an object with these members, but for those that have no value
abbrev pub object_of : ℕ → List (Key × Option Node) → Node
object_of at ms = object at (with_members no_fields ms) 0

abbrev pub list_node : {A : Type 0} → (A → Node) → ℕ → List A → Node
list_node f at xs = array at (nodes_of (map f xs))

-- a list, if it has items
abbrev pub some_list : {A : Type 0} → (A → Node) → List A → Option Node
some_list f [] = None
some_list f (x ∷ xs) = Some (list_node f 0 (x ∷ xs))

abbrev pub word : List ℕ → Node
word s = text 0 s

abbrev pub name_node : Named → Node
name_node n = text n.at n.name

-- an object with a name
abbrev pub keyed_node : Key → Named → Node
keyed_node k n = object_of 0 ((k, Some (name_node n)) ∷ [])

-- ---- expressions and types

abbrev pub expr_node : Expression → Node
expr_node (Truth at b) = truth at b
expr_node (Number at d) = number at d
expr_node (Name at x) = text at x
expr_node (One at o a) = object_of at ((K.Op, Some (word (op_text o))) ∷ (K.Exp, Some (expr_node a)) ∷ [])
expr_node (Two at o a b) = object_of at ((K.Op, Some (word (op_text o))) ∷ (K.Left, Some (expr_node a)) ∷ (K.Right, Some (expr_node b)) ∷ [])
expr_node (Three at o a b c) = object_of at ((K.Op, Some (word (op_text o))) ∷ (K.If, Some (expr_node a)) ∷ (K.Then, Some (expr_node b)) ∷ (K.Else, Some (expr_node c)) ∷ [])

abbrev pub boxed_node : Expression → Node
boxed_node e = object_of 0 ((K.Exp, Some (expr_node e)) ∷ [])

abbrev pub bounded_word : Node
bounded_word = word (codes "bounded")

-- A real with bounds and an int with one bound have no value of their own: trees that are written have none.
abbrev pub kind_node : ℕ → VarKind → Node
kind_node at boolean = text at (ty_text T.Bool)
kind_node at integer = text at (ty_text T.Int)
kind_node at real = text at (ty_text T.Real)
kind_node at real_bounded = object_of at ((K.Kind, Some bounded_word) ∷ (K.Base, Some (word (ty_text T.Real))) ∷ [])
kind_node at one_sided = object_of at ((K.Kind, Some bounded_word) ∷ (K.Base, Some (word (ty_text T.Int))) ∷ [])
kind_node at (bounded low high) = object_of at ((K.Kind, Some bounded_word) ∷ (K.Base, Some (word (ty_text T.Int))) ∷ (K.LowerBound, Some (expr_node low)) ∷ (K.UpperBound, Some (expr_node high)) ∷ [])

-- ---- declarations

abbrev pub const_node : Const → Node
const_node c = object_of 0
    ((K.Name, Some (name_node c.name)) ∷ (K.Type, Some (word (ty_text c.ty))) ∷ (K.Value, option_map expr_node c.value) ∷ (K.Comment, option_map word c.note) ∷ [])

-- only true is written
abbrev pub flag_node : Bool → Option Node
flag_node true = Some (truth 0 true)
flag_node false = None

abbrev pub var_node : Var → Node
var_node x = object_of 0
    ((K.Name, Some (name_node x.name)) ∷ (K.Type, Some (kind_node x.kind_at x.kind)) ∷ (K.Transient, flag_node x.transient)
    ∷ (K.InitialValue, option_map expr_node x.start) ∷ (K.Comment, option_map word x.note) ∷ [])

-- ---- automata

abbrev pub write_node : Write → Node
write_node w = object_of 0 ((K.Ref, Some (name_node w.target)) ∷ (K.Value, Some (expr_node w.value)) ∷ [])

abbrev pub location_node : Location → Node
location_node l = object_of 0 ((K.Name, Some (name_node l.name)) ∷ (K.TransientValues, some_list write_node l.values) ∷ [])

abbrev pub destination_node : Destination → Node
destination_node d = object_of 0
    ((K.Location, Some (name_node d.location)) ∷ (K.Probability, option_map boxed_node d.weight) ∷ (K.Assignments, some_list write_node d.writes) ∷ [])

abbrev pub edge_node : Edge → Node
edge_node e = object_of 0
    ((K.Location, Some (name_node e.location)) ∷ (K.Action, option_map name_node e.action) ∷ (K.Guard, option_map boxed_node e.guard)
    ∷ (K.Destinations, Some (list_node destination_node e.at e.destinations)) ∷ [])

abbrev pub automaton_node : Automaton → Node
automaton_node a = object_of 0
    ((K.Name, Some (name_node a.name)) ∷ (K.Variables, some_list var_node a.variables) ∷ (K.Locations, Some (list_node location_node 0 a.locations))
    ∷ (K.InitialLocations, Some (list_node name_node 0 a.initial)) ∷ (K.Edges, Some (list_node edge_node 0 a.edges)) ∷ [])

-- ---- the composition and the file

abbrev pub part_node : Option Named → Node
part_node None = null 0
part_node (Some n) = name_node n

abbrev pub vector_node : Vector → Node
vector_node x = object_of 0 ((K.Synchronise, Some (list_node part_node x.at x.parts)) ∷ (K.Result, option_map name_node x.result) ∷ [])

abbrev pub element_node : Element → Node
element_node e = object_of 0 ((K.Automaton, Some (name_node e.name)) ∷ (K.InputEnable, some_list name_node e.enable) ∷ [])

abbrev pub system_node : List Element → ℕ → List Vector → Node
system_node elements at vectors = object_of 0
    ((K.Elements, Some (list_node element_node at elements)) ∷ (K.Syncs, Some (list_node vector_node 0 vectors)) ∷ [])

abbrev pub version_node : Node
version_node = number 0 (record { real = false; negative = false; digits = 1; exponent = pos 0 })

abbrev pub features_node : Node
features_node = array 0 (nodes_of (word (feature_text DerivedOperators) ∷ word (feature_text StateExitRewards) ∷ []))

-- the members before the declarations, the same in each file
abbrev pub head_members : List (Key × Option Node)
head_members = (K.JaniVersion, Some version_node) ∷ (K.Name, Some (word (codes "model"))) ∷ (K.Type, Some (word (codes "mdp"))) ∷ (K.Features, Some features_node) ∷ []

abbrev pub file_members : File → List (Key × Option Node)
file_members f =
    (K.Actions, Some (list_node (keyed_node K.Name) 0 f.actions)) ∷ (K.Constants, Some (list_node const_node 0 f.constants))
    ∷ (K.Variables, Some (list_node var_node 0 f.variables)) ∷ (K.RestrictInitial, option_map boxed_node f.restrict) ∷ (K.Properties, Some f.properties)
    ∷ (K.Automata, Some (list_node automaton_node 0 f.automata)) ∷ (K.System, Some (system_node f.elements f.elements_at f.vectors)) ∷ []

abbrev pub file_node : File → Node
file_node f = object 0 (with_members (with_members no_fields head_members) (file_members f)) 0

-- ---- the form of trees that read back

-- each node has its operator's number of operands
abbrev pub HasOperands : Expression → Type 0
HasOperands e = Walks.HasOperands arity e

-- a type that has a value: an int has both bounds or none, a real has none
abbrev pub HasBounds : VarKind → Type 0
HasBounds boolean = Unit {0}
HasBounds integer = Unit {0}
HasBounds real = Unit {0}
HasBounds real_bounded = ⊥
HasBounds one_sided = ⊥
HasBounds (bounded low high) = HasOperands low × HasOperands high

pub record VarForm (x : Var) : Type 0 where
  pub kind : HasBounds x.kind
  pub start : OfSome HasOperands x.start

abbrev pub WriteForm : Write → Type 0
WriteForm w = HasOperands w.value

pub record DestinationForm (d : Destination) : Type 0 where
  pub weight : OfSome HasOperands d.weight
  pub writes : OfAll WriteForm d.writes

pub record EdgeForm (e : Edge) : Type 0 where
  pub guard : OfSome HasOperands e.guard
  pub destinations : OfAll DestinationForm e.destinations

abbrev pub ConstForm : Const → Type 0
ConstForm c = OfSome HasOperands c.value

abbrev pub LocationForm : Location → Type 0
LocationForm l = OfAll WriteForm l.values

pub record AutomatonForm (a : Automaton) : Type 0 where
  pub variables : OfAll VarForm a.variables
  pub locations : OfAll LocationForm a.locations
  pub edges : OfAll EdgeForm a.edges

-- a condition on initial states isn't the literal true, which is read as none
pub record RestrictionForm (e : Expression) : Type 0 where
  pub operands : HasOperands e
  pub restricts : is_always e ≡ false

pub record FileForm (f : File) : Type 0 where
  pub constants : OfAll ConstForm f.constants
  pub variables : OfAll VarForm f.variables
  pub restrict : OfSome RestrictionForm f.restrict
  pub automata : OfAll AutomatonForm f.automata
