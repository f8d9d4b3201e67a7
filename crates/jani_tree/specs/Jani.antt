-- Which JSON value spells which tree: one definition for each object of the jani-model specification, version 1. The members
-- of an object stand in any order, and a missing list is empty. Which values may stand at all is said by the faults.
use Rattle.std.specs.Prelude.{◌≡◌, ℕ, List, [], ◌∷◌, Option, Some, None, IsSomeAnd, IsTrue, if◌then◌else◌}
use Rattle.bridge_io.specs.declared.reason.Named.{Named}
use Rattle.op_trees.specs.declared.tree.Ty.{Ty}
use Rattle.op_trees.specs.declared.tree.Ty.TheVariants as T
use Rattle.op_trees.specs.Tree.{Truth, Number, Name, One, Two, Three}
use Rattle.jani_table.specs.declared.key.Key.{Key}
use Rattle.jani_table.specs.declared.key.Key.TheVariants as K
use Rattle.jani_table.specs.declared.table.Kind.{Kind}
use Rattle.jani_table.specs.declared.table.Kind.TheVariants as O
use Rattle.jani_table.specs.declared.operator.JaniOp.{JaniOp}
use Rattle.jani_table.specs.Node.{Node, null, truth, number, text, array, object, Nodes, no_nodes, more_nodes, at_of}
use Rattle.jani_table.specs.Words.{ty_of}
use Rattle.jani_table.specs.Faults.{part, op_in, op_kind, is_array, is_true, items_in}
use Rattle.jani_tree.specs.Syntax.{Expression, Const, VarKind, boolean, integer, number as real, real_bounded, one_sided, bounded, Var, Write, Location, Destination, Edge, Automaton, Element, Vector, File}

-- ---- members and lists

-- a member that may be missing
abbrev pub Optional : {A : Type 0} → (Node → A → Type 0) → Option Node → Option A → Type 0
Optional P None None = Unit {0}
Optional P (Some v) (Some x) = P v x
Optional P _ _ = ⊥

-- item by item
abbrev pub Each : {A : Type 0} → (Node → A → Type 0) → Nodes → List A → Type 0
Each P no_nodes [] = Unit {0}
Each P (more_nodes v vs) (x ∷ xs) = P v x × Each P vs xs
Each P no_nodes (x ∷ xs) = ⊥
Each P (more_nodes v vs) [] = ⊥

pub record IsItems {A : Type 0} (P : Node → A → Type 0) (v : Node) (xs : List A) : Type 0 where
  pub list : IsTrue (is_array v)
  pub items : Each P (items_in v) xs

-- a list that may be missing
abbrev pub IsList : {A : Type 0} → (Node → A → Type 0) → Option Node → List A → Type 0
IsList P None xs = xs ≡ []
IsList P (Some v) xs = IsItems P v xs

-- a list whose offset is kept
pub record IsListAt {A : Type 0} (P : Node → A → Type 0) (v : Node) (xs : List A) (at : ℕ) : Type 0 where
  pub offset : at_of v ≡ at
  pub items : IsItems P v xs

abbrev pub IsText : Node → List ℕ → Type 0
IsText (text at s) t = s ≡ t
IsText (null _) t = ⊥
IsText (truth _ _) t = ⊥
IsText (number _ _) t = ⊥
IsText (array _ _) t = ⊥
IsText (object _ _ _) t = ⊥

abbrev pub IsNamed : Node → Named → Type 0
IsNamed v n = v ≡ text n.at n.name

-- an object that has a name as the member with this key
abbrev pub IsKeyed : Key → Node → Named → Type 0
IsKeyed key v n = IsSomeAnd (part key v) (λ w. IsNamed w n)

-- ---- expressions

-- an object with this operator
pub record IsOperation (v : Node) (at : ℕ) (o : JaniOp) (kind : Kind) : Type 0 where
  pub offset : at_of v ≡ at
  pub op : op_in (part K.Op v) ≡ Some o
  pub takes : op_kind o ≡ kind

-- a string is a name
abbrev pub IsExpr : Node → Expression → Type 0
IsExpr v (Truth at b) = v ≡ truth at b
IsExpr v (Number at d) = v ≡ number at d
IsExpr v (Name at x) = v ≡ text at x
IsExpr v (One at o a) = IsOperation v at o O.Unary × IsSomeAnd (part K.Exp v) (λ w. IsExpr w a)
IsExpr v (Two at o a b) = IsOperation v at o O.Binary × IsSomeAnd (part K.Left v) (λ w. IsExpr w a) × IsSomeAnd (part K.Right v) (λ w. IsExpr w b)
IsExpr v (Three at o a b c) =
    IsOperation v at o O.Choice × IsSomeAnd (part K.If v) (λ w. IsExpr w a) × IsSomeAnd (part K.Then v) (λ w. IsExpr w b) × IsSomeAnd (part K.Else v) (λ w. IsExpr w c)

-- a guard, a probability, a condition on initial states: an object with the one member exp
abbrev pub IsBoxed : Node → Expression → Type 0
IsBoxed v e = IsSomeAnd (part K.Exp v) (λ w. IsExpr w e)

-- A condition on initial states that is the literal true restricts nothing ("restrict-initial" is true where it is left out), and
-- is none.
abbrev pub unless_always : Option Node → Option Node
unless_always None = None
unless_always (Some v) = if is_true (part K.Exp v) then None else Some v

-- ---- types

-- the type that this member names
abbrev pub ty_in : Option Node → Option Ty
ty_in (Some (text at s)) = ty_of s
ty_in (Some (null _)) = None
ty_in (Some (truth _ _)) = None
ty_in (Some (number _ _)) = None
ty_in (Some (array _ _)) = None
ty_in (Some (object _ _ _)) = None
ty_in None = None

-- the bounds of a bounded type: those of a real are not kept, nor is a bound without the other
pub data Range : Type 0 where
  real_range : Range
  half_range : Range
  whole_range : Node → Node → Range

abbrev pub range_of : Option Ty → Option Node → Option Node → Option Range
range_of (Some T.Real) low high = Some real_range
range_of (Some T.Int) (Some low) (Some high) = Some (whole_range low high)
range_of (Some T.Int) low high = Some half_range
range_of (Some T.Bool) low high = None
range_of None low high = None

abbrev pub IsWord : Option Ty → VarKind → Type 0
IsWord None k = ⊥
IsWord (Some T.Bool) k = k ≡ boolean
IsWord (Some T.Int) k = k ≡ integer
IsWord (Some T.Real) k = k ≡ real

pub record IsBounded (low high : Node) (k : VarKind) : Type 0 where
  pub first : Expression
  pub last : Expression
  pub kind : k ≡ bounded first last
  pub low_is : IsExpr low first
  pub high_is : IsExpr high last

abbrev pub IsRange : Option Range → VarKind → Type 0
IsRange None k = ⊥
IsRange (Some real_range) k = k ≡ real_bounded
IsRange (Some half_range) k = k ≡ one_sided
IsRange (Some (whole_range low high)) k = IsBounded low high k

abbrev pub range_in : Node → Option Range
range_in v = range_of (ty_in (part K.Base v)) (part K.LowerBound v) (part K.UpperBound v)

abbrev pub IsKind : Node → VarKind → Type 0
IsKind (text at s) k = IsWord (ty_of s) k
IsKind (null at) k = IsRange (range_in (null at)) k
IsKind (truth at b) k = IsRange (range_in (truth at b)) k
IsKind (number at d) k = IsRange (range_in (number at d)) k
IsKind (array at vs) k = IsRange (range_in (array at vs)) k
IsKind (object at ms close) k = IsRange (range_in (object at ms close)) k

-- ---- objects

pub record IsConst (v : Node) (c : Const) : Type 0 where
  pub name : IsKeyed K.Name v c.name
  pub ty : ty_in (part K.Type v) ≡ Some c.ty
  pub value : Optional IsExpr (part K.Value v) c.value
  pub note : Optional IsText (part K.Comment v) c.note

pub record IsKindAt (v : Node) (k : VarKind) (at : ℕ) : Type 0 where
  pub offset : at_of v ≡ at
  pub kind : IsKind v k

pub record IsVar (v : Node) (x : Var) : Type 0 where
  pub name : IsKeyed K.Name v x.name
  pub kind : IsSomeAnd (part K.Type v) (λ w. IsKindAt w x.kind x.kind_at)
  pub transient : x.transient ≡ is_true (part K.Transient v)
  pub start : Optional IsExpr (part K.InitialValue v) x.start
  pub note : Optional IsText (part K.Comment v) x.note

-- an assignment or a transient value
pub record IsWrite (v : Node) (w : Write) : Type 0 where
  pub target : IsKeyed K.Ref v w.target
  pub value : IsSomeAnd (part K.Value v) (λ e. IsExpr e w.value)

pub record IsLocation (v : Node) (l : Location) : Type 0 where
  pub name : IsKeyed K.Name v l.name
  pub values : IsList IsWrite (part K.TransientValues v) l.values

pub record IsDestination (v : Node) (d : Destination) : Type 0 where
  pub location : IsKeyed K.Location v d.location
  pub weight : Optional IsBoxed (part K.Probability v) d.weight
  pub writes : IsList IsWrite (part K.Assignments v) d.writes

pub record IsEdge (v : Node) (e : Edge) : Type 0 where
  pub location : IsKeyed K.Location v e.location
  pub action : Optional IsNamed (part K.Action v) e.action
  pub guard : Optional IsBoxed (part K.Guard v) e.guard
  pub destinations : IsSomeAnd (part K.Destinations v) (λ w. IsListAt IsDestination w e.destinations e.at)

pub record IsAutomaton (v : Node) (a : Automaton) : Type 0 where
  pub name : IsKeyed K.Name v a.name
  pub variables : IsList IsVar (part K.Variables v) a.variables
  pub locations : IsList IsLocation (part K.Locations v) a.locations
  pub initial : IsList IsNamed (part K.InitialLocations v) a.initial
  pub edges : IsList IsEdge (part K.Edges v) a.edges

-- a part of a vector is an action, or null where the element takes no part
abbrev pub IsPart : Node → Option Named → Type 0
IsPart v None = v ≡ null (at_of v)
IsPart v (Some n) = IsNamed v n

pub record IsVector (v : Node) (x : Vector) : Type 0 where
  pub parts : IsSomeAnd (part K.Synchronise v) (λ w. IsListAt IsPart w x.parts x.at)
  pub result : Optional IsNamed (part K.Result v) x.result

pub record IsElement (v : Node) (e : Element) : Type 0 where
  pub name : IsKeyed K.Automaton v e.name
  pub enable : IsList IsNamed (part K.InputEnable v) e.enable

pub record IsSystem (v : Node) (elements : List Element) (at : ℕ) (vectors : List Vector) : Type 0 where
  pub elements_are : IsSomeAnd (part K.Elements v) (λ w. IsListAt IsElement w elements at)
  pub vectors_are : IsList IsVector (part K.Syncs v) vectors

-- any value; a missing one is an empty array at offset 0
abbrev pub IsKept : Option Node → Node → Type 0
IsKept None p = p ≡ array 0 no_nodes
IsKept (Some v) p = p ≡ v

pub record IsFile (v : Node) (f : File) : Type 0 where
  pub actions : IsList (IsKeyed K.Name) (part K.Actions v) f.actions
  pub constants : IsList IsConst (part K.Constants v) f.constants
  pub variables : IsList IsVar (part K.Variables v) f.variables
  pub restrict : Optional IsBoxed (unless_always (part K.RestrictInitial v)) f.restrict
  pub automata : IsList IsAutomaton (part K.Automata v) f.automata
  pub system : IsSomeAnd (part K.System v) (λ s. IsSystem s f.elements f.elements_at f.vectors)
  pub properties : IsKept (part K.Properties v) f.properties
