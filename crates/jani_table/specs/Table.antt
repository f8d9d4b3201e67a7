-- What stands where in a JANI file (jani-model specification, version 1): how keys are written, which members each object
-- has, and what the value of a member and the items of a list have to be.
use Rattle.std.specs.Prelude.{ℕ, List, Bool, true, false, Option, Some, None, codes, bytes_eq, find}
use Rattle.jani_table.specs.declared.key.Key.{Key}
use Rattle.jani_table.specs.declared.key.Key.TheVariants as K
use Rattle.jani_table.specs.declared.table.Form.{Form}
use Rattle.jani_table.specs.declared.table.Form.TheVariants as F
use Rattle.jani_table.specs.declared.table.Kind.{Kind}
use Rattle.jani_table.specs.declared.table.Kind.TheVariants as O
use Rattle.jani_table.specs.declared.table.Need.{Need}
use Rattle.jani_table.specs.declared.table.Need.TheVariants.{Required, Optional}
use Rattle.jani_table.specs.Members as members

-- the key as it is written
abbrev pub spelled : Key → List ℕ
spelled K.JaniVersion = codes "jani-version"
spelled K.Name = codes "name"
spelled K.Type = codes "type"
spelled K.Features = codes "features"
spelled K.Actions = codes "actions"
spelled K.Constants = codes "constants"
spelled K.Variables = codes "variables"
spelled K.RestrictInitial = codes "restrict-initial"
spelled K.Properties = codes "properties"
spelled K.Automata = codes "automata"
spelled K.System = codes "system"
spelled K.Functions = codes "functions"
spelled K.Metadata = codes "metadata"
spelled K.Value = codes "value"
spelled K.Kind = codes "kind"
spelled K.Base = codes "base"
spelled K.LowerBound = codes "lower-bound"
spelled K.UpperBound = codes "upper-bound"
spelled K.Transient = codes "transient"
spelled K.InitialValue = codes "initial-value"
spelled K.Locations = codes "locations"
spelled K.InitialLocations = codes "initial-locations"
spelled K.Edges = codes "edges"
spelled K.TransientValues = codes "transient-values"
spelled K.TimeProgress = codes "time-progress"
spelled K.Ref = codes "ref"
spelled K.Location = codes "location"
spelled K.Action = codes "action"
spelled K.Guard = codes "guard"
spelled K.Destinations = codes "destinations"
spelled K.Rate = codes "rate"
spelled K.Probability = codes "probability"
spelled K.Assignments = codes "assignments"
spelled K.Index = codes "index"
spelled K.Elements = codes "elements"
spelled K.Syncs = codes "syncs"
spelled K.Automaton = codes "automaton"
spelled K.InputEnable = codes "input-enable"
spelled K.Synchronise = codes "synchronise"
spelled K.Result = codes "result"
spelled K.Exp = codes "exp"
spelled K.Op = codes "op"
spelled K.Constant = codes "constant"
spelled K.Left = codes "left"
spelled K.Right = codes "right"
spelled K.If = codes "if"
spelled K.Then = codes "then"
spelled K.Else = codes "else"
spelled K.Comment = codes "comment"

-- a member that an object may have, whether it has to, and what its value has to be
abbrev pub Row : Type 0
Row = Key × Need × Form

-- The members of each object. The condition on the initial states of an automaton has those of a guard, and beside them a rule of its own.
abbrev pub rows_of : Kind → List Row
rows_of O.Model = members.model
rows_of O.Action = members.action
rows_of O.Constant = members.constant_declaration
rows_of O.ConstantRange = members.bounded_type
rows_of O.Variable = members.variable_declaration
rows_of O.Range = members.bounded_type
rows_of O.Automaton = members.automaton
rows_of O.Location = members.location
rows_of O.TransientValue = members.transient_value
rows_of O.Edge = members.edge
rows_of O.Destination = members.destination
rows_of O.Assignment = members.assignment
rows_of O.System = members.composition
rows_of O.Element = members.element
rows_of O.Vector = members.vector
rows_of O.Boxed = members.guard
rows_of O.AutomatonInitial = members.guard
rows_of O.Unary = members.unary
rows_of O.Binary = members.binary
rows_of O.Choice = members.if_then_else
rows_of O.Unclear = members.unclear

abbrev pub is_required : Need → Bool
is_required Required = true
is_required Optional = false

-- the member with this key
abbrev pub row_of : Kind → List ℕ → Option Row
row_of kind s = find (λ r. bytes_eq (spelled r.0) s) (rows_of kind)

abbrev pub form_in : Option Row → Option Form
form_in None = None
form_in (Some r) = Some r.2

-- what the value of a member with this key has to be; none where an object of this kind has no such member
abbrev pub known_form : Kind → List ℕ → Option Form
known_form kind s = form_in (row_of kind s)

-- what the items of a list have to be; none where no list may stand
abbrev pub item_form : Form → Option Form
item_form F.Features = Some F.Feature
item_form F.Actions = Some F.Action
item_form F.Constants = Some F.Constant
item_form F.Variables = Some F.Variable
item_form F.Automata = Some F.Automaton
item_form F.Locations = Some F.Location
item_form F.InitialLocations = Some F.Name
item_form F.TransientValues = Some F.TransientValue
item_form F.Edges = Some F.Edge
item_form F.Destinations = Some F.Destination
item_form F.Assignments = Some F.Assignment
item_form F.Elements = Some F.Element
item_form F.Vectors = Some F.Vector
item_form F.Synchronise = Some F.NameOrNull
item_form F.InputEnable = Some F.Name
item_form _ = None
