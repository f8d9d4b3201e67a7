-- The form of a tree does not depend on its places.
use Rattle.std.specs.Prelude.{◌≡◌, ℕ, List, [], ◌∷◌, map, Option, Some, None}
use Rattle.std.specs.Option.{option_map}
use Rattle.std.proofs.Common.{refl, sym, ap, subst, ◌∙◌}
use Rattle.bridge_io.specs.declared.reason.Named.{Named}
use Rattle.op_trees.specs.Tree.{Truth, Number, Name, One, Two, Three, bare}
use Rattle.jani_table.specs.Node.{Node, null, truth, number, text, array, object, Nodes, no_nodes, more_nodes, Fields, no_fields, field}
use Rattle.jani_table.specs.Faults.{member_text}
use Rattle.jani_tree.specs.Syntax.{Expression, is_always, Const, VarKind, boolean, integer, number as real, real_bounded, one_sided, bounded, Var, Write, Location, Destination, Edge, Automaton, Element, Vector, File}
use Rattle.std.specs.List.{AllByRecursion as OfAll}
use Rattle.basics.specs.Options.{IfAny as OfSome}
use Rattle.op_trees.specs.Names.{bare_name}
use Rattle.jani_tree.specs.Places.{bare_node, bare_nodes, bare_fields, bare_const, bare_kind, bare_var, bare_write, bare_location, bare_destination, bare_edge, bare_automaton, bare_element, bare_part, bare_vector, bare_file}
use Rattle.jani_tree.proofs.Bare.{member_bare}
use Rattle.basics.specs.Lists.{IsNotEmpty as HasItems}
use Rattle.jani_tree.specs.Form.{IsGiven, NormalNode, NormalNodes, NormalFields, KeysOnce, KeysOnceInside, KeysApart, NameForm, ExprForm, KindForm, ConstRead, VarRead, WriteRead, LocationRead, DestinationRead, EdgeRead, AutomatonRead, ElementRead, PartForm, VectorRead, RestrictionRead, FileWith}

-- the one holds exactly where the other does
abbrev Alike : Type 0 → Type 0 → Type 0
Alike A B = (A → B) × (B → A)

module _ {A : Type 0} (F : A → Type 0) (f : A → A) (h : (x : A) → Alike (F x) (F (f x))) where
  some_alike : (o : Option A) → Alike (OfSome F o) (OfSome F (option_map f o))
  some_alike None = (λ p. p, λ p. p)
  some_alike (Some x) = h x

  all_alike : (xs : List A) → Alike (OfAll F xs) (OfAll F (map f xs))
  all_alike [] = (λ p. p, λ p. p)
  all_alike (x ∷ xs) = (λ p. ((h x).0 p.0, (all_alike xs).0 p.1), λ p. ((h x).1 p.0, (all_alike xs).1 p.1))

  items_alike : (xs : List A) → Alike (HasItems xs) (HasItems (map f xs))
  items_alike [] = (λ p. p, λ p. p)
  items_alike (x ∷ xs) = (λ p. p, λ p. p)

  given_alike : (o : Option A) → Alike (IsGiven o) (IsGiven (option_map f o))
  given_alike None = (λ p. p, λ p. p)
  given_alike (Some x) = (λ p. p, λ p. p)

-- ---- values
mutual
  normal_alike : (v : Node) → Alike (NormalNode v) (NormalNode (bare_node v))
  normal_alike (null at) = (λ p. p, λ p. p)
  normal_alike (truth at b) = (λ p. p, λ p. p)
  normal_alike (number at d) = (λ p. p, λ p. p)
  normal_alike (text at s) = (λ p. p, λ p. p)
  normal_alike (array at vs) = normal_items vs
  normal_alike (object at ms close) = normal_fields ms

  normal_items : (vs : Nodes) → Alike (NormalNodes vs) (NormalNodes (bare_nodes vs))
  normal_items no_nodes = (λ p. p, λ p. p)
  normal_items (more_nodes v vs) = (λ p. ((normal_alike v).0 p.0, (normal_items vs).0 p.1), λ p. ((normal_alike v).1 p.0, (normal_items vs).1 p.1))

  normal_fields : (ms : Fields) → Alike (NormalFields ms) (NormalFields (bare_fields ms))
  normal_fields no_fields = (λ p. p, λ p. p)
  normal_fields (field n v rest) = (λ p. ((normal_alike v).0 p.0, (normal_fields rest).0 p.1), λ p. ((normal_alike v).1 p.0, (normal_fields rest).1 p.1))

none_back : (o : Option Node) → option_map bare_node o ≡ None → o ≡ None
none_back None e = refl
none_back (Some v) e = absurd cc

mutual
  once_alike : (v : Node) → Alike (KeysOnce v) (KeysOnce (bare_node v))
  once_alike (null at) = (λ p. p, λ p. p)
  once_alike (truth at b) = (λ p. p, λ p. p)
  once_alike (number at d) = (λ p. p, λ p. p)
  once_alike (text at s) = (λ p. p, λ p. p)
  once_alike (array at vs) = once_items vs
  once_alike (object at ms close) = once_fields ms

  once_items : (vs : Nodes) → Alike (KeysOnceInside vs) (KeysOnceInside (bare_nodes vs))
  once_items no_nodes = (λ p. p, λ p. p)
  once_items (more_nodes v vs) = (λ p. ((once_alike v).0 p.0, (once_items vs).0 p.1), λ p. ((once_alike v).1 p.0, (once_items vs).1 p.1))

  once_fields : (ms : Fields) → Alike (KeysApart ms) (KeysApart (bare_fields ms))
  once_fields no_fields = (λ p. p, λ p. p)
  once_fields (field n v rest) = (
    λ p. (member_bare n.name rest ∙ ap (option_map bare_node) p.0, (once_alike v).0 p.1, (once_fields rest).0 p.2),
    λ p. (none_back (member_text n.name rest) (sym (member_bare n.name rest) ∙ p.0), (once_alike v).1 p.1, (once_fields rest).1 p.2),
  )

-- ---- trees, by what is asked of names
module _ (P : List ℕ → Type 0) where
  name : (n : Named) → Alike (NameForm P n) (NameForm P (bare_name n))
  name n = (λ p. p, λ p. p)

  names : (n : Option Named) → Alike (OfSome (NameForm P) n) (OfSome (NameForm P) (option_map bare_name n))
  names n = some_alike (NameForm P) bare_name name n

  expr : (e : Expression) → Alike (ExprForm P e) (ExprForm P (bare e))
  expr (Truth at b) = (λ p. p, λ p. p)
  expr (Number at d) = (λ p. p, λ p. p)
  expr (Name at x) = (λ p. p, λ p. p)
  expr (One at o a) = (λ p. (p.0, (expr a).0 p.1), λ p. (p.0, (expr a).1 p.1))
  expr (Two at o a b) = (λ p. (p.0, (expr a).0 p.1, (expr b).0 p.2), λ p. (p.0, (expr a).1 p.1, (expr b).1 p.2))
  expr (Three at o a b c) = (λ p. (p.0, (expr a).0 p.1, (expr b).0 p.2, (expr c).0 p.3), λ p. (p.0, (expr a).1 p.1, (expr b).1 p.2, (expr c).1 p.3))

  exprs : (e : Option Expression) → Alike (OfSome (ExprForm P) e) (OfSome (ExprForm P) (option_map bare e))
  exprs e = some_alike (ExprForm P) bare expr e

  kind : (k : VarKind) → Alike (KindForm P k) (KindForm P (bare_kind k))
  kind boolean = (λ p. p, λ p. p)
  kind integer = (λ p. p, λ p. p)
  kind real = (λ p. p, λ p. p)
  kind real_bounded = (λ p. p, λ p. p)
  kind one_sided = (λ p. p, λ p. p)
  kind (bounded low high) = (λ p. ((expr low).0 p.0, (expr high).0 p.1), λ p. ((expr low).1 p.0, (expr high).1 p.1))

  const : (c : Const) → Alike (ConstRead P c) (ConstRead P (bare_const c))
  const c = (λ p. record { name = p.name; value = (exprs c.value).0 p.value }, λ p. record { name = p.name; value = (exprs c.value).1 p.value })

  var : (x : Var) → Alike (VarRead P x) (VarRead P (bare_var x))
  var x = (
    λ p. record { name = p.name; kind = (kind x.kind).0 p.kind; start = (exprs x.start).0 p.start; begins = λ t. (given_alike (ExprForm P) bare expr x.start).0 (p.begins t) },
    λ p. record { name = p.name; kind = (kind x.kind).1 p.kind; start = (exprs x.start).1 p.start; begins = λ t. (given_alike (ExprForm P) bare expr x.start).1 (p.begins t) },
  )

  write : (w : Write) → Alike (WriteRead P w) (WriteRead P (bare_write w))
  write w = (λ p. record { target = p.target; value = (expr w.value).0 p.value }, λ p. record { target = p.target; value = (expr w.value).1 p.value })

  writes : (ws : List Write) → Alike (OfAll (WriteRead P) ws) (OfAll (WriteRead P) (map bare_write ws))
  writes ws = all_alike (WriteRead P) bare_write write ws

  location : (l : Location) → Alike (LocationRead P l) (LocationRead P (bare_location l))
  location l = (λ p. record { name = p.name; values = (writes l.values).0 p.values }, λ p. record { name = p.name; values = (writes l.values).1 p.values })

  destination : (d : Destination) → Alike (DestinationRead P d) (DestinationRead P (bare_destination d))
  destination d = (
    λ p. record { location = p.location; weight = (exprs d.weight).0 p.weight; writes = (writes d.writes).0 p.writes },
    λ p. record { location = p.location; weight = (exprs d.weight).1 p.weight; writes = (writes d.writes).1 p.writes },
  )

  destinations : (ds : List Destination) → Alike (OfAll (DestinationRead P) ds) (OfAll (DestinationRead P) (map bare_destination ds))
  destinations ds = all_alike (DestinationRead P) bare_destination destination ds

  some_destination : (ds : List Destination) → Alike (HasItems ds) (HasItems (map bare_destination ds))
  some_destination ds = items_alike (DestinationRead P) bare_destination destination ds

  edge : (e : Edge) → Alike (EdgeRead P e) (EdgeRead P (bare_edge e))
  edge e = (
    λ p. record {
      location = p.location;
      action = (names e.action).0 p.action;
      guard = (exprs e.guard).0 p.guard;
      destinations = (destinations e.destinations).0 p.destinations;
      some = (some_destination e.destinations).0 p.some;
    },
    λ p. record {
      location = p.location;
      action = (names e.action).1 p.action;
      guard = (exprs e.guard).1 p.guard;
      destinations = (destinations e.destinations).1 p.destinations;
      some = (some_destination e.destinations).1 p.some;
    },
  )

  all_names : (ns : List Named) → Alike (OfAll (NameForm P) ns) (OfAll (NameForm P) (map bare_name ns))
  all_names ns = all_alike (NameForm P) bare_name name ns

  automaton : (a : Automaton) → Alike (AutomatonRead P a) (AutomatonRead P (bare_automaton a))
  automaton a = (
    λ p. record {
      name = p.name;
      variables = (all_alike (VarRead P) bare_var var a.variables).0 p.variables;
      locations = (all_alike (LocationRead P) bare_location location a.locations).0 p.locations;
      initial = (all_names a.initial).0 p.initial;
      begins = (items_alike (NameForm P) bare_name name a.initial).0 p.begins;
      edges = (all_alike (EdgeRead P) bare_edge edge a.edges).0 p.edges;
    },
    λ p. record {
      name = p.name;
      variables = (all_alike (VarRead P) bare_var var a.variables).1 p.variables;
      locations = (all_alike (LocationRead P) bare_location location a.locations).1 p.locations;
      initial = (all_names a.initial).1 p.initial;
      begins = (items_alike (NameForm P) bare_name name a.initial).1 p.begins;
      edges = (all_alike (EdgeRead P) bare_edge edge a.edges).1 p.edges;
    },
  )

  element : (e : Element) → Alike (ElementRead P e) (ElementRead P (bare_element e))
  element e = (
    λ p. record { name = p.name; enable = (all_names e.enable).0 p.enable },
    λ p. record { name = p.name; enable = (all_names e.enable).1 p.enable },
  )

  vector : (x : Vector) → Alike (VectorRead P x) (VectorRead P (bare_vector x))
  vector x = (
    λ p. record { parts = (all_alike (PartForm P) bare_part names x.parts).0 p.parts; result = (names x.result).0 p.result },
    λ p. record { parts = (all_alike (PartForm P) bare_part names x.parts).1 p.parts; result = (names x.result).1 p.result },
  )

  bare_always : (e : Expression) → is_always (bare e) ≡ is_always e
  bare_always (Truth at b) = refl
  bare_always (Number at d) = refl
  bare_always (Name at x) = refl
  bare_always (One at o a) = refl
  bare_always (Two at o a b) = refl
  bare_always (Three at o a b c) = refl

  restriction : (e : Expression) → Alike (RestrictionRead P e) (RestrictionRead P (bare e))
  restriction e = (
    λ p. record { expression = (expr e).0 p.expression; restricts = bare_always e ∙ p.restricts },
    λ p. record { expression = (expr e).1 p.expression; restricts = sym (bare_always e) ∙ p.restricts },
  )

  file : (f : File) → Alike (FileWith P f) (FileWith P (bare_file f))
  file f = (
    λ p. record {
      actions = (all_names f.actions).0 p.actions;
      constants = (all_alike (ConstRead P) bare_const const f.constants).0 p.constants;
      variables = (all_alike (VarRead P) bare_var var f.variables).0 p.variables;
      restrict = (some_alike (RestrictionRead P) bare restriction f.restrict).0 p.restrict;
      automata = (all_alike (AutomatonRead P) bare_automaton automaton f.automata).0 p.automata;
      elements = (all_alike (ElementRead P) bare_element element f.elements).0 p.elements;
      vectors = (all_alike (VectorRead P) bare_vector vector f.vectors).0 p.vectors;
      properties = (normal_alike f.properties).0 p.properties;
    },
    λ p. record {
      actions = (all_names f.actions).1 p.actions;
      constants = (all_alike (ConstRead P) bare_const const f.constants).1 p.constants;
      variables = (all_alike (VarRead P) bare_var var f.variables).1 p.variables;
      restrict = (some_alike (RestrictionRead P) bare restriction f.restrict).1 p.restrict;
      automata = (all_alike (AutomatonRead P) bare_automaton automaton f.automata).1 p.automata;
      elements = (all_alike (ElementRead P) bare_element element f.elements).1 p.elements;
      vectors = (all_alike (VectorRead P) bare_vector vector f.vectors).1 p.vectors;
      properties = (normal_alike f.properties).1 p.properties;
    },
  )

-- trees that are the same but for places have the form alike
pub form_too : (P : List ℕ → Type 0) (f g : File) → bare_file f ≡ bare_file g → FileWith P f → FileWith P g
form_too P f g e p = (file P g).1 (subst (FileWith P) e ((file P f).0 p))

pub once_too : (f g : File) → bare_file f ≡ bare_file g → KeysOnce f.properties → KeysOnce g.properties
once_too f g e p = (once_alike g.properties).1 (subst (λ (x : File). KeysOnce x.properties) e ((once_alike f.properties).0 p))
