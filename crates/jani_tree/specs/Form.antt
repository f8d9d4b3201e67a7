-- The form of trees: no name is empty, each literal is in normal form, each node has its operator's number of operands, each
-- transient variable has a first value, each automaton an initial location, each edge a destination, and a condition on the
-- initial states isn't the literal true. Names in trees that are read have at most 255 bytes besides; those in trees that are
-- written may be longer. That no object of a JSON value has a key twice. And that a file leaves one state alone to begin in.
use Rattle.std.specs.Prelude.{◌≡◌, ℕ, ◌<◌, List, [], ◌∷◌, length, true, false, Option, Some, None}
use Rattle.bridge_io.specs.declared.reason.Named.{Named}
use Rattle.frac_core.specs.declared.decimal.Decimal.{Decimal}
use Rattle.frac_core.specs.Decimal.{is_normal}
use Rattle.op_trees.specs.Tree.{Truth, Number, Name, One, Two, Three}
use Rattle.jani_table.specs.Operators.{arity}
use Rattle.jani_table.specs.Faults.{member_text}
use Rattle.jani_table.specs.Node.{Node, null, truth, number, text, array, object, Nodes, no_nodes, more_nodes, Fields, no_fields, field}
use Rattle.jani_tree.specs.Syntax.{Expression, is_always, Const, VarKind, boolean, integer, number as real, real_bounded, one_sided, bounded, Var, Write, Location, Destination, Edge, Automaton, Element, Vector, File}
use Rattle.std.specs.List.{AllByRecursion as OfAll}
use Rattle.basics.specs.Options.{IfAny as OfSome}
use Rattle.basics.specs.Lists.{IsNotEmpty as HasItems}

-- a list of one item
abbrev pub HasOne : {A : Type 0} → List A → Type 0
HasOne [] = ⊥
HasOne (x ∷ []) = Unit {0}
HasOne (x ∷ y ∷ xs) = ⊥

abbrev pub IsGiven : {A : Type 0} → Option A → Type 0
IsGiven None = ⊥
IsGiven (Some x) = Unit {0}

abbrev pub IsNormal : Decimal → Type 0
IsNormal d = is_normal d ≡ true

-- each literal of a value is in normal form
abbrev mutual
  pub NormalNode : Node → Type 0
  NormalNode (null at) = Unit {0}
  NormalNode (truth at b) = Unit {0}
  NormalNode (number at d) = IsNormal d
  NormalNode (text at s) = Unit {0}
  NormalNode (array at vs) = NormalNodes vs
  NormalNode (object at ms close) = NormalFields ms

  pub NormalNodes : Nodes → Type 0
  NormalNodes no_nodes = Unit {0}
  NormalNodes (more_nodes v vs) = NormalNode v × NormalNodes vs

  pub NormalFields : Fields → Type 0
  NormalFields no_fields = Unit {0}
  NormalFields (field n v rest) = NormalNode v × NormalFields rest

-- no object of a value has a key twice
abbrev mutual
  pub KeysOnce : Node → Type 0
  KeysOnce (null at) = Unit {0}
  KeysOnce (truth at b) = Unit {0}
  KeysOnce (number at d) = Unit {0}
  KeysOnce (text at s) = Unit {0}
  KeysOnce (array at vs) = KeysOnceInside vs
  KeysOnce (object at ms close) = KeysApart ms

  pub KeysOnceInside : Nodes → Type 0
  KeysOnceInside no_nodes = Unit {0}
  KeysOnceInside (more_nodes v vs) = KeysOnce v × KeysOnceInside vs

  -- none of the members behind this one has its key
  pub KeysApart : Fields → Type 0
  KeysApart no_fields = Unit {0}
  KeysApart (field n v rest) = (member_text n.name rest ≡ None) × KeysOnce v × KeysApart rest

-- ---- names

-- at most 255 bytes, and not empty
pub record IsShortName (s : List ℕ) : Type 0 where
  pub some : HasItems s
  pub short : length s < 256

-- ---- trees, by what is asked of names

module _ (IsName : List ℕ → Type 0) where
  abbrev pub NameForm : Named → Type 0
  NameForm n = IsName n.name

  abbrev pub ExprForm : Expression → Type 0
  ExprForm (Truth at b) = Unit {0}
  ExprForm (Number at d) = IsNormal d
  ExprForm (Name at x) = IsName x
  ExprForm (One at o a) = (arity o ≡ 1) × ExprForm a
  ExprForm (Two at o a b) = (arity o ≡ 2) × ExprForm a × ExprForm b
  ExprForm (Three at o a b c) = (arity o ≡ 3) × ExprForm a × ExprForm b × ExprForm c

  abbrev pub KindForm : VarKind → Type 0
  KindForm boolean = Unit {0}
  KindForm integer = Unit {0}
  KindForm real = Unit {0}
  KindForm real_bounded = Unit {0}
  KindForm one_sided = Unit {0}
  KindForm (bounded low high) = ExprForm low × ExprForm high

  pub record ConstRead (c : Const) : Type 0 where
    pub name : NameForm c.name
    pub value : OfSome ExprForm c.value

  pub record VarRead (x : Var) : Type 0 where
    pub name : NameForm x.name
    pub kind : KindForm x.kind
    pub start : OfSome ExprForm x.start
    pub begins : x.transient ≡ true → IsGiven x.start

  pub record WriteRead (w : Write) : Type 0 where
    pub target : NameForm w.target
    pub value : ExprForm w.value

  pub record LocationRead (l : Location) : Type 0 where
    pub name : NameForm l.name
    pub values : OfAll WriteRead l.values

  pub record DestinationRead (d : Destination) : Type 0 where
    pub location : NameForm d.location
    pub weight : OfSome ExprForm d.weight
    pub writes : OfAll WriteRead d.writes

  pub record EdgeRead (e : Edge) : Type 0 where
    pub location : NameForm e.location
    pub action : OfSome NameForm e.action
    pub guard : OfSome ExprForm e.guard
    pub destinations : OfAll DestinationRead e.destinations
    pub some : HasItems e.destinations

  pub record AutomatonRead (a : Automaton) : Type 0 where
    pub name : NameForm a.name
    pub variables : OfAll VarRead a.variables
    pub locations : OfAll LocationRead a.locations
    pub initial : OfAll NameForm a.initial
    pub begins : HasItems a.initial
    pub edges : OfAll EdgeRead a.edges

  pub record ElementRead (e : Element) : Type 0 where
    pub name : NameForm e.name
    pub enable : OfAll NameForm e.enable

  abbrev pub PartForm : Option Named → Type 0
  PartForm p = OfSome NameForm p

  pub record VectorRead (x : Vector) : Type 0 where
    pub parts : OfAll PartForm x.parts
    pub result : OfSome NameForm x.result

  pub record RestrictionRead (e : Expression) : Type 0 where
    pub expression : ExprForm e
    pub restricts : is_always e ≡ false

  pub record FileWith (f : File) : Type 0 where
    pub actions : OfAll NameForm f.actions
    pub constants : OfAll ConstRead f.constants
    pub variables : OfAll VarRead f.variables
    pub restrict : OfSome RestrictionRead f.restrict
    pub automata : OfAll AutomatonRead f.automata
    pub elements : OfAll ElementRead f.elements
    pub vectors : OfAll VectorRead f.vectors
    pub properties : NormalNode f.properties

-- no name is empty
abbrev pub FileRead : File → Type 0
FileRead = FileWith HasItems

-- and none has more than 255 bytes
abbrev pub FileShort : File → Type 0
FileShort = FileWith IsShortName

-- ---- one state to begin in

-- a variable that isn't transient has a first value
abbrev pub StartsOnce : Var → Type 0
StartsOnce x = x.transient ≡ false → IsGiven x.start

-- an automaton has one initial location, and each of its variables one first value
pub record BeginsOnce (a : Automaton) : Type 0 where
  pub variables : OfAll StartsOnce a.variables
  pub initial : HasOne a.initial

-- No state is initial but the one in which each variable has its first value and each automaton is at its initial location.
pub record HasOneStart (f : File) : Type 0 where
  pub restrict : f.restrict ≡ None
  pub variables : OfAll StartsOnce f.variables
  pub automata : OfAll BeginsOnce f.automata
