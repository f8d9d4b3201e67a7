-- The members of the objects of a JANI file, one list for each object of the jani-model specification (version 1): a member
-- has a key, is required or optional, and has a value of a form. Beside a member stands what holds where it is left out.
--
-- What the profile of this project adds: a comment may stand in every object. What it leaves out is marked so; a member that
-- is left out whatever its value is has the form LeftOut, and so its own fault and not that of an unknown member. Where a
-- form has fewer values than the specification, Words.antt and Faults.antt say which.
use Rattle.std.specs.Prelude.{List, [], ◌∷◌}
use Rattle.jani_table.specs.declared.key.Key.{Key}
use Rattle.jani_table.specs.declared.key.Key.TheVariants as K
use Rattle.jani_table.specs.declared.table.Form.{Form}
use Rattle.jani_table.specs.declared.table.Form.TheVariants as F
use Rattle.jani_table.specs.declared.table.Need.{Need}
use Rattle.jani_table.specs.declared.table.Need.TheVariants.{Required, Optional}

abbrev pub Members : Type 0
Members = List (Key × Need × Form)

-- ---- "Models"

-- a model (Model)
abbrev pub model : Members
model =
    (K.JaniVersion, Required, F.Version)  -- the profile reads version 1 alone
    ∷ (K.Name, Required, F.Text)
    ∷ (K.Type, Required, F.ModelType)  -- the profile leaves out all types but "mdp"
    ∷ (K.Features, Optional, F.Features)  -- no features
    ∷ (K.Actions, Optional, F.Actions)  -- no actions
    ∷ (K.Constants, Optional, F.Constants)  -- no constants
    ∷ (K.Variables, Optional, F.Variables)  -- no global variables
    ∷ (K.RestrictInitial, Optional, F.Boxed)  -- true
    ∷ (K.Properties, Optional, F.Anything)  -- no properties; in a model they are passed over, jani_props judges them
    ∷ (K.Automata, Required, F.Automata)
    ∷ (K.System, Required, F.System)
    ∷ (K.Functions, Optional, F.LeftOut)  -- no functions; of the feature "functions", which the profile leaves out
    ∷ (K.Metadata, Optional, F.Anything)  -- nothing; the profile passes over any value
    ∷ (K.Comment, Optional, F.Text)  -- nothing
    ∷ []

-- an action (an item of "actions" of Model)
abbrev pub action : Members
action =
    (K.Name, Required, F.Name)
    ∷ (K.Comment, Optional, F.Text)  -- nothing
    ∷ []

-- ---- "Types"

-- a bounded type (BoundedType)
abbrev pub bounded_type : Members
bounded_type =
    (K.Kind, Required, F.BoundedWord)
    ∷ (K.Base, Required, F.BaseWord)
    ∷ (K.LowerBound, Optional, F.Expression)  -- no bound from below; one of the two bounds has to be there
    ∷ (K.UpperBound, Optional, F.Expression)  -- no bound from above; likewise
    ∷ (K.Comment, Optional, F.Text)  -- nothing
    ∷ []

-- ---- "Constants", "Variable declarations"

-- a constant (ConstantDeclaration)
abbrev pub constant_declaration : Members
constant_declaration =
    (K.Name, Required, F.Name)
    ∷ (K.Type, Required, F.ConstantType)  -- the profile leaves out bounded types
    ∷ (K.Value, Optional, F.Expression)  -- a parameter of the model
    ∷ (K.Comment, Optional, F.Text)  -- nothing
    ∷ []

-- a variable (VariableDeclaration)
abbrev pub variable_declaration : Members
variable_declaration =
    (K.Name, Required, F.Name)
    ∷ (K.Type, Required, F.VariableType)
    ∷ (K.Transient, Optional, F.Truth)  -- false
    ∷ (K.InitialValue, Optional, F.Expression)  -- every value of the type; a transient one has to have it
    ∷ (K.Comment, Optional, F.Text)  -- nothing
    ∷ []

-- ---- "Automata"

-- an automaton (Automaton)
abbrev pub automaton : Members
automaton =
    (K.Name, Required, F.Name)
    ∷ (K.Variables, Optional, F.Variables)  -- no variables of its own
    ∷ (K.Locations, Required, F.Locations)
    ∷ (K.InitialLocations, Required, F.InitialLocations)
    ∷ (K.Edges, Required, F.Edges)
    ∷ (K.RestrictInitial, Optional, F.AutomatonInitial)  -- true; the profile leaves out all other conditions
    ∷ (K.Functions, Optional, F.LeftOut)  -- no functions; of the feature "functions", which the profile leaves out
    ∷ (K.Comment, Optional, F.Text)  -- nothing
    ∷ []

-- a location (an item of "locations" of Automaton)
abbrev pub location : Members
location =
    (K.Name, Required, F.Name)
    ∷ (K.TransientValues, Optional, F.TransientValues)  -- transient variables have their initial values
    ∷ (K.TimeProgress, Optional, F.LeftOut)  -- true; of models with time, which the profile leaves out
    ∷ (K.Comment, Optional, F.Text)  -- nothing
    ∷ []

-- a value of a transient variable (an item of "transient-values" of a location)
abbrev pub transient_value : Members
transient_value =
    (K.Ref, Required, F.Name)
    ∷ (K.Value, Required, F.Expression)
    ∷ (K.Comment, Optional, F.Text)  -- nothing
    ∷ []

-- an edge (an item of "edges" of Automaton)
abbrev pub edge : Members
edge =
    (K.Location, Required, F.Name)
    ∷ (K.Action, Optional, F.Name)  -- the silent action
    ∷ (K.Guard, Optional, F.Boxed)  -- true
    ∷ (K.Destinations, Required, F.Destinations)
    ∷ (K.Rate, Optional, F.LeftOut)  -- no rate; of models with time, which the profile leaves out
    ∷ (K.Comment, Optional, F.Text)  -- nothing
    ∷ []

-- a destination (an item of "destinations" of an edge)
abbrev pub destination : Members
destination =
    (K.Location, Required, F.Name)
    ∷ (K.Probability, Optional, F.Boxed)  -- 1
    ∷ (K.Assignments, Optional, F.Assignments)  -- no assignments
    ∷ (K.Comment, Optional, F.Text)  -- nothing
    ∷ []

-- an assignment (an item of "assignments" of a destination)
abbrev pub assignment : Members
assignment =
    (K.Ref, Required, F.Name)
    ∷ (K.Value, Required, F.Expression)
    ∷ (K.Index, Optional, F.Index)  -- 0; the profile leaves out all others
    ∷ (K.Comment, Optional, F.Text)  -- nothing
    ∷ []

-- a guard, a probability, or a condition on initial states ("guard", "probability", "restrict-initial")
abbrev pub guard : Members
guard =
    (K.Exp, Required, F.Expression)
    ∷ (K.Comment, Optional, F.Text)  -- nothing
    ∷ []

-- ---- "System composition"

-- a composition of automata (Composition)
abbrev pub composition : Members
composition =
    (K.Elements, Required, F.Elements)
    ∷ (K.Syncs, Optional, F.Vectors)  -- no synchronisation vectors
    ∷ (K.Comment, Optional, F.Text)  -- nothing
    ∷ []

-- an element (an item of "elements" of Composition)
abbrev pub element : Members
element =
    (K.Automaton, Required, F.Name)
    ∷ (K.InputEnable, Optional, F.InputEnable)  -- the actions that the element accepts everywhere
    ∷ (K.Comment, Optional, F.Text)  -- nothing
    ∷ []

-- a synchronisation vector (an item of "syncs" of Composition)
abbrev pub vector : Members
vector =
    (K.Synchronise, Required, F.Synchronise)
    ∷ (K.Result, Optional, F.Name)  -- the silent action
    ∷ (K.Comment, Optional, F.Text)  -- nothing
    ∷ []

-- ---- "Expressions"
-- The profile leaves out the mathematical constants, which are objects with the one member "constant". It tells so wherever
-- an expression has this member.

-- an operator with one operand
abbrev pub unary : Members
unary =
    (K.Op, Required, F.Operator)
    ∷ (K.Exp, Required, F.Expression)
    ∷ (K.Constant, Optional, F.LeftOut)  -- no mathematical constant
    ∷ (K.Comment, Optional, F.Text)  -- nothing
    ∷ []

-- an operator with two operands
abbrev pub binary : Members
binary =
    (K.Op, Required, F.Operator)
    ∷ (K.Left, Required, F.Expression)
    ∷ (K.Right, Required, F.Expression)
    ∷ (K.Constant, Optional, F.LeftOut)  -- no mathematical constant
    ∷ (K.Comment, Optional, F.Text)  -- nothing
    ∷ []

-- the operator with three operands ("ite")
abbrev pub if_then_else : Members
if_then_else =
    (K.Op, Required, F.Operator)
    ∷ (K.If, Required, F.Expression)
    ∷ (K.Then, Required, F.Expression)
    ∷ (K.Else, Required, F.Expression)
    ∷ (K.Constant, Optional, F.LeftOut)  -- no mathematical constant
    ∷ (K.Comment, Optional, F.Text)  -- nothing
    ∷ []

-- An expression whose operator is missing or is none of those that are read: no object of the specification. It may have the
-- operands of every operator, so that its operator alone is told.
abbrev pub unclear : Members
unclear =
    (K.Op, Required, F.Operator)
    ∷ (K.Exp, Optional, F.Expression)
    ∷ (K.Left, Optional, F.Expression)
    ∷ (K.Right, Optional, F.Expression)
    ∷ (K.If, Optional, F.Expression)
    ∷ (K.Then, Optional, F.Expression)
    ∷ (K.Else, Optional, F.Expression)
    ∷ (K.Constant, Optional, F.LeftOut)  -- no mathematical constant
    ∷ (K.Comment, Optional, F.Text)  -- nothing
    ∷ []
