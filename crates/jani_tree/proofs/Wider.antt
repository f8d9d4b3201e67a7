-- A form that asks less of names has all trees that one which asks more has.
use Rattle.std.proofs.Common.{ℕ, List, Option, Some, None}
use Rattle.basics.specs.Each.{each_then}
use Rattle.bridge_io.specs.declared.reason.Named.{Named}
use Rattle.op_trees.specs.Tree.{Truth, Number, Name, One, Two, Three}
use Rattle.jani_tree.specs.Syntax.{Expression, Const, VarKind, boolean, integer, number as real, real_bounded, one_sided, bounded, Var, Write, Location, Destination, Edge, Automaton, Element, Vector, File}
use Rattle.basics.specs.Options.{IfAny as OfSome}
use Rattle.basics.specs.Lists.{IsNotEmpty as HasItems}
use Rattle.jani_tree.specs.Form.{IsShortName, NameForm, ExprForm, KindForm, ConstRead, VarRead, WriteRead, LocationRead, DestinationRead, EdgeRead, AutomatonRead, ElementRead, PartForm, VectorRead, RestrictionRead, FileWith, FileRead, FileShort}

pub some_wider : {A : Type 0} (F G : A → Type 0) → ((x : A) → F x → G x) → (o : Option A) → OfSome F o → OfSome G o
some_wider F G h None p = tt
some_wider F G h (Some x) p = h x p

module _ (P Q : List ℕ → Type 0) (wider : (s : List ℕ) → P s → Q s) where
  name : (n : Named) → NameForm P n → NameForm Q n
  name n p = wider n.name p

  names : (n : Option Named) → OfSome (NameForm P) n → OfSome (NameForm Q) n
  names n p = some_wider (NameForm P) (NameForm Q) name n p

  expr : (e : Expression) → ExprForm P e → ExprForm Q e
  expr (Truth at b) p = p
  expr (Number at d) p = p
  expr (Name at x) p = wider x p
  expr (One at o a) p = (p.0, expr a p.1)
  expr (Two at o a b) p = (p.0, expr a p.1, expr b p.2)
  expr (Three at o a b c) p = (p.0, expr a p.1, expr b p.2, expr c p.3)

  exprs : (e : Option Expression) → OfSome (ExprForm P) e → OfSome (ExprForm Q) e
  exprs e p = some_wider (ExprForm P) (ExprForm Q) expr e p

  kind : (k : VarKind) → KindForm P k → KindForm Q k
  kind boolean p = p
  kind integer p = p
  kind real p = p
  kind real_bounded p = p
  kind one_sided p = p
  kind (bounded low high) p = (expr low p.0, expr high p.1)

  const : (c : Const) → ConstRead P c → ConstRead Q c
  const c p = record { name = name c.name p.name; value = exprs c.value p.value }

  var : (x : Var) → VarRead P x → VarRead Q x
  var x p = record { name = name x.name p.name; kind = kind x.kind p.kind; start = exprs x.start p.start; begins = p.begins }

  write : (w : Write) → WriteRead P w → WriteRead Q w
  write w p = record { target = name w.target p.target; value = expr w.value p.value }

  location : (l : Location) → LocationRead P l → LocationRead Q l
  location l p = record { name = name l.name p.name; values = each_then (WriteRead P) (WriteRead Q) write l.values p.values }

  destination : (d : Destination) → DestinationRead P d → DestinationRead Q d
  destination d p = record {
    location = name d.location p.location;
    weight = exprs d.weight p.weight;
    writes = each_then (WriteRead P) (WriteRead Q) write d.writes p.writes;
  }

  edge : (e : Edge) → EdgeRead P e → EdgeRead Q e
  edge e p = record {
    location = name e.location p.location;
    action = names e.action p.action;
    guard = exprs e.guard p.guard;
    destinations = each_then (DestinationRead P) (DestinationRead Q) destination e.destinations p.destinations;
    some = p.some;
  }

  automaton : (a : Automaton) → AutomatonRead P a → AutomatonRead Q a
  automaton a p = record {
    name = name a.name p.name;
    variables = each_then (VarRead P) (VarRead Q) var a.variables p.variables;
    locations = each_then (LocationRead P) (LocationRead Q) location a.locations p.locations;
    initial = each_then (NameForm P) (NameForm Q) name a.initial p.initial;
    begins = p.begins;
    edges = each_then (EdgeRead P) (EdgeRead Q) edge a.edges p.edges;
  }

  element : (e : Element) → ElementRead P e → ElementRead Q e
  element e p = record { name = name e.name p.name; enable = each_then (NameForm P) (NameForm Q) name e.enable p.enable }

  vector : (x : Vector) → VectorRead P x → VectorRead Q x
  vector x p = record { parts = each_then (PartForm P) (PartForm Q) names x.parts p.parts; result = names x.result p.result }

  restriction : (e : Expression) → RestrictionRead P e → RestrictionRead Q e
  restriction e p = record { expression = expr e p.expression; restricts = p.restricts }

  pub file_wider : (f : File) → FileWith P f → FileWith Q f
  file_wider f p = record {
    actions = each_then (NameForm P) (NameForm Q) name f.actions p.actions;
    constants = each_then (ConstRead P) (ConstRead Q) const f.constants p.constants;
    variables = each_then (VarRead P) (VarRead Q) var f.variables p.variables;
    restrict = some_wider (RestrictionRead P) (RestrictionRead Q) restriction f.restrict p.restrict;
    automata = each_then (AutomatonRead P) (AutomatonRead Q) automaton f.automata p.automata;
    elements = each_then (ElementRead P) (ElementRead Q) element f.elements p.elements;
    vectors = each_then (VectorRead P) (VectorRead Q) vector f.vectors p.vectors;
    properties = p.properties;
  }

-- short names are not empty
pub short_is_read : (f : File) → FileShort f → FileRead f
short_is_read f p = file_wider IsShortName HasItems (λ s h. h.some) f p
