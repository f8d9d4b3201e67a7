-- The faults of a JSON value that has to be of a form of JANI (jani-model specification, version 1): the list of all of
-- them, each with its offset. The reasons and their places are this project's.
use Rattle.std.specs.Prelude.{ℕ, List, [], ◌∷◌, ◌++◌, Bool, true, false, Option, Some, None, codes, bytes_eq, if◌then◌else◌, ◌||◌, ◌&&◌, not, is_some}
use Rattle.std.specs.List.{list_any}
use Rattle.bridge_io.specs.declared.reason.Reason.{Reason}
use Rattle.bridge_io.specs.declared.reason.Reason.TheVariants.{LeftOut, MissingMember, UnknownMember, WrongShape, NoDestination}
use Rattle.bridge_io.specs.declared.reason.Fault.{Fault}
use Rattle.jani_table.specs.declared.key.Key.{Key}
use Rattle.jani_table.specs.declared.key.Key.TheVariants as K
use Rattle.jani_table.specs.declared.table.Form.{Form}
use Rattle.jani_table.specs.declared.table.Form.TheVariants as F
use Rattle.jani_table.specs.declared.table.Kind.{Kind}
use Rattle.jani_table.specs.declared.table.Kind.TheVariants as O
use Rattle.jani_table.specs.declared.operator.JaniOp.{JaniOp}
use Rattle.jani_table.specs.declared.operator.JaniOp.TheVariants.{Ite, Not, Floor, Ceil}
use Rattle.jani_table.specs.declared.shape.Operands.{Operands}
use Rattle.jani_table.specs.declared.shape.Operands.TheVariants as P
use Rattle.jani_table.specs.Node.{Node, null, truth, number, text, array, object, Nodes, no_nodes, more_nodes, Fields, no_fields, field, at_of}
use Rattle.jani_table.specs.Table.{Row, spelled, rows_of, is_required, known_form, item_form}
use Rattle.jani_table.specs.Operators.{op_of}
use Rattle.jani_table.specs.Words.{kind_fault, null_fault, truth_fault, number_fault, word_fault}

abbrev pub fault : ℕ → Reason → List Fault
fault at reason = record { reason = reason; at = at } ∷ []

abbrev pub fault_if : ℕ → Option Reason → List Fault
fault_if at None = []
fault_if at (Some reason) = fault at reason

abbrev pub fault_unless : Bool → ℕ → Reason → List Fault
fault_unless b at reason = if b then [] else fault at reason

-- ---- members

-- the value of the member with this key; no object has a key twice
abbrev pub member_text : List ℕ → Fields → Option Node
member_text k no_fields = None
member_text k (field n v rest) = if bytes_eq k n.name then Some v else member_text k rest

abbrev pub member : Key → Fields → Option Node
member k ms = member_text (spelled k) ms

abbrev pub has : Key → Fields → Bool
has k ms = is_some (member k ms)

abbrev pub is_true : Option Node → Bool
is_true (Some (truth at b)) = b
is_true (Some (null _)) = false
is_true (Some (number _ _)) = false
is_true (Some (text _ _)) = false
is_true (Some (array _ _)) = false
is_true (Some (object _ _ _)) = false
is_true None = false

abbrev pub is_word : List ℕ → Option Node → Bool
is_word s (Some (text at t)) = bytes_eq s t
is_word s (Some (null _)) = false
is_word s (Some (truth _ _)) = false
is_word s (Some (number _ _)) = false
is_word s (Some (array _ _)) = false
is_word s (Some (object _ _ _)) = false
is_word s None = false

-- ---- which table of members an object has

-- how many operands an operator has
abbrev pub operand_count : JaniOp → Operands
operand_count Ite = P.Three
operand_count Not = P.One
operand_count Floor = P.One
operand_count Ceil = P.One
operand_count o = P.Two

abbrev pub operands_kind : Operands → Kind
operands_kind P.One = O.Unary
operands_kind P.Two = O.Binary
operands_kind P.Three = O.Choice

-- the table of an operator's object
abbrev pub op_kind : JaniOp → Kind
op_kind o = operands_kind (operand_count o)

-- the operator that this member names
abbrev pub op_in : Option Node → Option JaniOp
op_in (Some (text at s)) = op_of s
op_in (Some (null _)) = None
op_in (Some (truth _ _)) = None
op_in (Some (number _ _)) = None
op_in (Some (array _ _)) = None
op_in (Some (object _ _ _)) = None
op_in None = None

abbrev pub or_unclear : Option JaniOp → Kind
or_unclear None = O.Unclear
or_unclear (Some o) = op_kind o

-- none: no object may stand for this form
abbrev pub object_kind : Form → Fields → Option Kind
object_kind F.Model ms = Some O.Model
object_kind F.Action ms = Some O.Action
object_kind F.Constant ms = Some O.Constant
object_kind F.ConstantType ms = Some O.ConstantRange
object_kind F.Variable ms = Some O.Variable
object_kind F.VariableType ms = Some O.Range
object_kind F.Automaton ms = Some O.Automaton
object_kind F.Location ms = Some O.Location
object_kind F.TransientValue ms = Some O.TransientValue
object_kind F.Edge ms = Some O.Edge
object_kind F.Destination ms = Some O.Destination
object_kind F.Assignment ms = Some O.Assignment
object_kind F.System ms = Some O.System
object_kind F.Element ms = Some O.Element
object_kind F.Vector ms = Some O.Vector
object_kind F.Boxed ms = Some O.Boxed
object_kind F.AutomatonInitial ms = Some O.AutomatonInitial
object_kind F.Expression ms = Some (or_unclear (op_in (member K.Op ms)))
object_kind f ms = None

-- ---- what a list and an object owe beside what their parts do

abbrev pub first_of : Nodes → Option Node
first_of no_nodes = None
first_of (more_nodes v vs) = Some v

-- where there is no such item
abbrev pub none_faults : ℕ → Reason → Option Node → List Fault
none_faults at reason None = fault at reason
none_faults at reason (Some v) = []

-- an edge has a destination, and an automaton an initial location
abbrev pub list_faults : Form → ℕ → Nodes → List Fault
list_faults F.Destinations at vs = none_faults at NoDestination (first_of vs)
list_faults F.InitialLocations at vs = none_faults at WrongShape (first_of vs)
list_faults f at vs = []

-- a required member that is missing, at the closing brace
unfoldable pub row_faults : Fields → ℕ → Row → List Fault
row_faults ms close r = fault_unless (not (is_required r.1) || has r.0 ms) close MissingMember

abbrev pub missing_faults : Fields → ℕ → List Row → List Fault
missing_faults ms close [] = []
missing_faults ms close (r ∷ rows) = row_faults ms close r ++ missing_faults ms close rows

-- a bounded type has a bound
abbrev pub bound_faults : Fields → ℕ → List Fault
bound_faults ms close = fault_unless (has K.LowerBound ms || has K.UpperBound ms) close MissingMember

-- A constant has no bounded type; a transient variable has an initial value; and the condition on the initial states of an
-- automaton has to be true.
abbrev pub other_faults : Kind → Fields → ℕ → ℕ → List Fault
other_faults O.ConstantRange ms at close = fault_unless (not (is_word (codes "bounded") (member K.Kind ms))) at LeftOut ++ bound_faults ms close
other_faults O.Range ms at close = bound_faults ms close
other_faults O.Variable ms at close = fault_unless (has K.InitialValue ms || not (is_true (member K.Transient ms))) close MissingMember
other_faults O.AutomatonInitial ms at close = fault_unless (is_true (member K.Exp ms)) at LeftOut
other_faults kind ms at close = []

abbrev pub own_faults : Kind → Fields → ℕ → ℕ → List Fault
own_faults kind ms at close = missing_faults ms close (rows_of kind) ++ other_faults kind ms at close

-- ---- all faults of a value

abbrev pub by_form : Option Form → List Fault → (Form → List Fault) → List Fault
by_form None wrong inner = wrong
by_form (Some f) wrong inner = inner f

abbrev pub by_kind : Option Kind → List Fault → (Kind → List Fault) → List Fault
by_kind None wrong inner = wrong
by_kind (Some k) wrong inner = inner k

abbrev mutual
  -- of a value that has to be of this form
  pub faults : Form → Node → List Fault
  faults f (null at) = fault_if at (null_fault f)
  faults f (truth at b) = fault_if at (truth_fault f)
  faults f (number at d) = fault_if at (number_fault f d)
  faults f (text at s) = fault_if at (word_fault f s)
  faults f (array at vs) = by_form (item_form f) (fault_if at (kind_fault f)) (λ g. items_faults g vs ++ list_faults f at vs)
  faults f (object at ms close) = by_kind (object_kind f ms) (fault_if at (kind_fault f)) (λ k. members_faults k ms ++ own_faults k ms at close)

  -- of items, each of which has to be of this form
  pub items_faults : Form → Nodes → List Fault
  items_faults f no_nodes = []
  items_faults f (more_nodes v vs) = faults f v ++ items_faults f vs

  -- of the members of an object: an unknown one has its fault at its key
  pub members_faults : Kind → Fields → List Fault
  members_faults kind no_fields = []
  members_faults kind (field n v rest) = by_form (known_form kind n.name) (fault n.at UnknownMember) (λ g. faults g v) ++ members_faults kind rest

-- ---- parts of a value

-- all faults of an object with this table of members
abbrev pub object_faults : Kind → Node → List Fault
object_faults k (object at ms close) = members_faults k ms ++ own_faults k ms at close
object_faults k (null at) = fault (at_of (null at)) WrongShape
object_faults k (truth at b) = fault (at_of (truth at b)) WrongShape
object_faults k (number at d) = fault (at_of (number at d)) WrongShape
object_faults k (text at s) = fault (at_of (text at s)) WrongShape
object_faults k (array at vs) = fault (at_of (array at vs)) WrongShape

-- all faults of the items of a list
abbrev pub list_items_faults : Form → Node → List Fault
list_items_faults f (array at vs) = items_faults f vs
list_items_faults f (null at) = fault (at_of (null at)) WrongShape
list_items_faults f (truth at b) = fault (at_of (truth at b)) WrongShape
list_items_faults f (number at d) = fault (at_of (number at d)) WrongShape
list_items_faults f (text at s) = fault (at_of (text at s)) WrongShape
list_items_faults f (object at ms close) = fault (at_of (object at ms close)) WrongShape

abbrev pub members_in : Node → Fields
members_in (object at ms close) = ms
members_in (null _) = no_fields
members_in (truth _ _) = no_fields
members_in (number _ _) = no_fields
members_in (text _ _) = no_fields
members_in (array _ _) = no_fields

-- the value of a member of an object
abbrev pub part : Key → Node → Option Node
part k v = member k (members_in v)

abbrev pub items_in : Node → Nodes
items_in (array at vs) = vs
items_in (null _) = no_nodes
items_in (truth _ _) = no_nodes
items_in (number _ _) = no_nodes
items_in (text _ _) = no_nodes
items_in (object _ _ _) = no_nodes

abbrev pub or_left_out : Option Form → Form
or_left_out None = F.LeftOut
or_left_out (Some f) = f

-- what the value of a known member has to be
abbrev pub part_form : Kind → Key → Form
part_form kind key = or_left_out (known_form kind (spelled key))

abbrev pub is_known : Kind → Key → Bool
is_known kind key = is_some (known_form kind (spelled key))

abbrev pub is_needed : Kind → Key → Bool
is_needed kind key = list_any (λ r. is_required r.1 && bytes_eq (spelled r.0) (spelled key)) (rows_of kind)

abbrev pub is_text : Node → Bool
is_text (text at s) = true
is_text (null _) = false
is_text (truth _ _) = false
is_text (number _ _) = false
is_text (array _ _) = false
is_text (object _ _ _) = false

abbrev pub is_array : Node → Bool
is_array (array at vs) = true
is_array (null _) = false
is_array (truth _ _) = false
is_array (number _ _) = false
is_array (text _ _) = false
is_array (object _ _ _) = false
