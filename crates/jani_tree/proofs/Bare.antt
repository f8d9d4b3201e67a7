-- Which tree a value spells does not depend on places.
use Rattle.std.proofs.Common.{◌≡◌, ℕ, refl, sym, ap, subst, ◌∙◌, List, [], ◌∷◌, Option, Some, None, Bool, true, false, if◌then◌else◌}
use Rattle.std.specs.Prelude.{IsSomeAnd, bytes_eq, map}
use Rattle.std.specs.Option.{option_map}
use Rattle.bridge_io.specs.declared.reason.Named.{Named}
use Rattle.op_trees.specs.declared.tree.Ty.{Ty}
use Rattle.op_trees.specs.declared.tree.Ty.TheVariants as T
use Rattle.op_trees.specs.Tree.{Truth, Number, Name, One, Two, Three, bare}
use Rattle.jani_table.specs.declared.key.Key.{Key}
use Rattle.jani_table.specs.declared.key.Key.TheVariants as K
use Rattle.jani_table.specs.declared.table.Kind.{Kind}
use Rattle.jani_table.specs.declared.operator.JaniOp.{JaniOp}
use Rattle.jani_table.specs.Node.{Node, null, truth, number, text, array, object, Nodes, no_nodes, more_nodes, Fields, no_fields, field, at_of}
use Rattle.jani_table.specs.Table.{spelled}
use Rattle.jani_table.specs.Words.{ty_of}
use Rattle.jani_table.specs.Faults.{part, member_text, op_in, is_true}
use Rattle.jani_tree.specs.Syntax.{Expression, Const, VarKind, Var, Write, Location, Destination, Edge, Automaton, Element, Vector, File}
use Rattle.jani_tree.specs.Jani.{Optional, Each, IsItems, IsList, IsListAt, IsText, IsNamed, IsKeyed, IsOperation, IsExpr, IsBoxed, ty_in, Range, real_range, half_range, whole_range, range_of, range_in, IsWord, IsRange, IsKind, IsKindAt, IsConst, IsVar, IsWrite, IsLocation, IsDestination, IsEdge, IsAutomaton, IsElement, IsPart, IsVector, IsSystem, unless_always, IsKept, IsFile}
use Rattle.op_trees.specs.Names.{bare_name}
use Rattle.jani_tree.specs.Places.{bare_node, bare_nodes, bare_fields, bare_const, bare_kind, bare_var, bare_write, bare_location, bare_destination, bare_edge, bare_automaton, bare_element, bare_part, bare_vector, bare_file, PlacesApart, OneTree}
use Rattle.jani_tree.proofs.Unique.{same_file}

-- ---- members

chosen : (b : Bool) (v : Node) (o p : Option Node) → p ≡ option_map bare_node o → (if b then Some (bare_node v) else p) ≡ option_map bare_node (if b then Some v else o)
chosen true v o p e = refl
chosen false v o p e = e

pub member_bare : (s : List ℕ) (ms : Fields) → member_text s (bare_fields ms) ≡ option_map bare_node (member_text s ms)
member_bare s no_fields = refl
member_bare s (field n v rest) = chosen (bytes_eq s n.name) v (member_text s rest) (member_text s (bare_fields rest)) (member_bare s rest)

part_bare : (k : Key) (v : Node) → part k (bare_node v) ≡ option_map bare_node (part k v)
part_bare k (object at ms close) = member_bare (spelled k) ms
part_bare k (null at) = refl
part_bare k (truth at b) = refl
part_bare k (number at d) = refl
part_bare k (text at s) = refl
part_bare k (array at vs) = refl

pub at_bare : (v : Node) → at_of (bare_node v) ≡ 0
at_bare (object at ms close) = refl
at_bare (null at) = refl
at_bare (truth at b) = refl
at_bare (number at d) = refl
at_bare (text at s) = refl
at_bare (array at vs) = refl

some_bare : (P Q : Node → Type 0) (o : Option Node) → ((w : Node) → P w → Q (bare_node w)) → IsSomeAnd o P → IsSomeAnd (option_map bare_node o) Q
some_bare P Q None h p = absurd p
some_bare P Q (Some w) h p = h w p

-- a required member
one_bare : (k : Key) (v : Node) (P Q : Node → Type 0) → ((w : Node) → P w → Q (bare_node w)) → IsSomeAnd (part k v) P → IsSomeAnd (part k (bare_node v)) Q
one_bare k v P Q h p = subst (λ o. IsSomeAnd o Q) (sym (part_bare k v)) (some_bare P Q (part k v) h p)

map_bare : {A B : Type 0} (P : Node → A → Type 0) (Q : Node → B → Type 0) (f : A → B) (o : Option Node) (x : Option A) → ((w : Node) (x : A) → P w x → Q (bare_node w) (f x)) → Optional P o x → Optional Q (option_map bare_node o) (option_map f x)
map_bare P Q f None None h p = tt
map_bare P Q f None (Some x) h p = absurd p
map_bare P Q f (Some w) None h p = absurd p
map_bare P Q f (Some w) (Some x) h p = h w x p

-- a member that may be missing
optional_bare : {A B : Type 0} (k : Key) (v : Node) (P : Node → A → Type 0) (Q : Node → B → Type 0) (f : A → B) (x : Option A) → ((w : Node) (x : A) → P w x → Q (bare_node w) (f x)) → Optional P (part k v) x → Optional Q (part k (bare_node v)) (option_map f x)
optional_bare k v P Q f x h p = subst (λ o. Optional Q o (option_map f x)) (sym (part_bare k v)) (map_bare P Q f (part k v) x h p)

text_bare : (w : Node) (s : List ℕ) → IsText w s → IsText (bare_node w) s
text_bare (text at t) s p = p
text_bare (null at) s p = absurd p
text_bare (truth at b) s p = absurd p
text_bare (number at d) s p = absurd p
text_bare (array at vs) s p = absurd p
text_bare (object at ms close) s p = absurd p

kept_note : (o : Option Node) (s : Option (List ℕ)) → Optional IsText o s → Optional IsText (option_map bare_node o) s
kept_note None None p = tt
kept_note None (Some s) p = absurd p
kept_note (Some w) None p = absurd p
kept_note (Some w) (Some s) p = text_bare w s p

note_bare : (v : Node) (s : Option (List ℕ)) → Optional IsText (part K.Comment v) s → Optional IsText (part K.Comment (bare_node v)) s
note_bare v s p = subst (λ o. Optional IsText o s) (sym (part_bare K.Comment v)) (kept_note (part K.Comment v) s p)

-- ---- lists

module _ {A B : Type 0} (P : Node → A → Type 0) (Q : Node → B → Type 0) (f : A → B) (h : (w : Node) (x : A) → P w x → Q (bare_node w) (f x)) where
  each_bare : (vs : Nodes) (xs : List A) → Each P vs xs → Each Q (bare_nodes vs) (map f xs)
  each_bare no_nodes [] p = tt
  each_bare no_nodes (x ∷ xs) p = absurd p
  each_bare (more_nodes v vs) [] p = absurd p
  each_bare (more_nodes v vs) (x ∷ xs) p = (h v x p.0, each_bare vs xs p.1)

  items_bare : (v : Node) (xs : List A) → IsItems P v xs → IsItems Q (bare_node v) (map f xs)
  items_bare (array at vs) xs p = record { list = refl; items = each_bare vs xs p.items }
  items_bare (null at) xs p = absurd (let e = p.list in cc)
  items_bare (truth at b) xs p = absurd (let e = p.list in cc)
  items_bare (number at d) xs p = absurd (let e = p.list in cc)
  items_bare (text at s) xs p = absurd (let e = p.list in cc)
  items_bare (object at ms close) xs p = absurd (let e = p.list in cc)

  lists_bare : (o : Option Node) (xs : List A) → IsList P o xs → IsList Q (option_map bare_node o) (map f xs)
  lists_bare None xs p = ap (map f) p
  lists_bare (Some v) xs p = items_bare v xs p

  list_bare : (k : Key) (v : Node) (xs : List A) → IsList P (part k v) xs → IsList Q (part k (bare_node v)) (map f xs)
  list_bare k v xs p = subst (λ o. IsList Q o (map f xs)) (sym (part_bare k v)) (lists_bare (part k v) xs p)

  list_at_bare : (k : Key) (v : Node) (xs : List A) (at : ℕ) → IsSomeAnd (part k v) (λ w. IsListAt P w xs at) → IsSomeAnd (part k (bare_node v)) (λ w. IsListAt Q w (map f xs) 0)
  list_at_bare k v xs at p = one_bare k v (λ w. IsListAt P w xs at) (λ w. IsListAt Q w (map f xs) 0) (λ w i. record { offset = at_bare w; items = items_bare w xs i.items }) p

-- ---- names and expressions

name_bare : (w : Node) (n : Named) → IsNamed w n → IsNamed (bare_node w) (bare_name n)
name_bare w n e = ap bare_node e

keyed_bare : (k : Key) (v : Node) (n : Named) → IsKeyed k v n → IsKeyed k (bare_node v) (bare_name n)
keyed_bare k v n p = one_bare k v (λ w. IsNamed w n) (λ w. IsNamed w (bare_name n)) (λ w e. name_bare w n e) p

pub op_bare : (o : Option Node) → op_in (option_map bare_node o) ≡ op_in o
op_bare None = refl
op_bare (Some (text at s)) = refl
op_bare (Some (null at)) = refl
op_bare (Some (truth at b)) = refl
op_bare (Some (number at d)) = refl
op_bare (Some (array at vs)) = refl
op_bare (Some (object at ms close)) = refl

operation_bare : (v : Node) (at : ℕ) (o : JaniOp) (k : Kind) → IsOperation v at o k → IsOperation (bare_node v) 0 o k
operation_bare v at o k i = record { offset = at_bare v; op = ap op_in (part_bare K.Op v) ∙ (op_bare (part K.Op v) ∙ i.op); takes = i.takes }

expr_bare : (v : Node) (e : Expression) → IsExpr v e → IsExpr (bare_node v) (bare e)
expr_bare v (Truth at b) p = ap bare_node p
expr_bare v (Number at d) p = ap bare_node p
expr_bare v (Name at x) p = ap bare_node p
expr_bare v (One at o a) p = (operation_bare v at o _ p.0, one_bare K.Exp v (λ w. IsExpr w a) (λ w. IsExpr w (bare a)) (λ w q. expr_bare w a q) p.1)
expr_bare v (Two at o a b) p = (operation_bare v at o _ p.0, one_bare K.Left v (λ w. IsExpr w a) (λ w. IsExpr w (bare a)) (λ w q. expr_bare w a q) p.1, one_bare K.Right v (λ w. IsExpr w b) (λ w. IsExpr w (bare b)) (λ w q. expr_bare w b q) p.2)
expr_bare v (Three at o a b c) p = (operation_bare v at o _ p.0, one_bare K.If v (λ w. IsExpr w a) (λ w. IsExpr w (bare a)) (λ w q. expr_bare w a q) p.1, one_bare K.Then v (λ w. IsExpr w b) (λ w. IsExpr w (bare b)) (λ w q. expr_bare w b q) p.2, one_bare K.Else v (λ w. IsExpr w c) (λ w. IsExpr w (bare c)) (λ w q. expr_bare w c q) p.3)

boxed_bare : (v : Node) (e : Expression) → IsBoxed v e → IsBoxed (bare_node v) (bare e)
boxed_bare v e p = one_bare K.Exp v (λ w. IsExpr w e) (λ w. IsExpr w (bare e)) (λ w q. expr_bare w e q) p

-- ---- types

ty_bare : (o : Option Node) → ty_in (option_map bare_node o) ≡ ty_in o
ty_bare None = refl
ty_bare (Some (text at s)) = refl
ty_bare (Some (null at)) = refl
ty_bare (Some (truth at b)) = refl
ty_bare (Some (number at d)) = refl
ty_bare (Some (array at vs)) = refl
ty_bare (Some (object at ms close)) = refl

pub true_bare : (o : Option Node) → is_true (option_map bare_node o) ≡ is_true o
true_bare None = refl
true_bare (Some (text at s)) = refl
true_bare (Some (null at)) = refl
true_bare (Some (truth at b)) = refl
true_bare (Some (number at d)) = refl
true_bare (Some (array at vs)) = refl
true_bare (Some (object at ms close)) = refl

bare_range : Range → Range
bare_range real_range = real_range
bare_range half_range = half_range
bare_range (whole_range low high) = whole_range (bare_node low) (bare_node high)

range_of_bare : (t : Option Ty) (low high : Option Node) → range_of t (option_map bare_node low) (option_map bare_node high) ≡ option_map bare_range (range_of t low high)
unfolding bare_range
range_of_bare None low high = refl
range_of_bare (Some T.Bool) low high = refl
range_of_bare (Some T.Real) low high = refl
range_of_bare (Some T.Int) None None = refl
range_of_bare (Some T.Int) None (Some h) = refl
range_of_bare (Some T.Int) (Some l) None = refl
range_of_bare (Some T.Int) (Some l) (Some h) = refl

range_bare : (v : Node) → range_in (bare_node v) ≡ option_map bare_range (range_in v)
range_bare v =
    ap (λ t. range_of t (part K.LowerBound (bare_node v)) (part K.UpperBound (bare_node v))) (ap ty_in (part_bare K.Base v) ∙ ty_bare (part K.Base v))
    ∙ (ap (λ l. range_of (ty_in (part K.Base v)) l (part K.UpperBound (bare_node v))) (part_bare K.LowerBound v)
    ∙ (ap (λ h. range_of (ty_in (part K.Base v)) (option_map bare_node (part K.LowerBound v)) h) (part_bare K.UpperBound v)
    ∙ range_of_bare (ty_in (part K.Base v)) (part K.LowerBound v) (part K.UpperBound v)))

word_bare : (o : Option Ty) (k : VarKind) → IsWord o k → IsWord o (bare_kind k)
word_bare None k p = absurd p
word_bare (Some T.Bool) k p = ap bare_kind p
word_bare (Some T.Int) k p = ap bare_kind p
word_bare (Some T.Real) k p = ap bare_kind p

bounds_bare : (o : Option Range) (k : VarKind) → IsRange o k → IsRange (option_map bare_range o) (bare_kind k)
unfolding bare_range
bounds_bare None k p = absurd p
bounds_bare (Some real_range) k p = ap bare_kind p
bounds_bare (Some half_range) k p = ap bare_kind p
bounds_bare (Some (whole_range low high)) k p = record { first = bare p.first; last = bare p.last; kind = ap bare_kind p.kind; low_is = expr_bare low p.first p.low_is; high_is = expr_bare high p.last p.high_is }

range_kind_bare : (v : Node) (k : VarKind) → IsRange (range_in v) k → IsRange (range_in (bare_node v)) (bare_kind k)
range_kind_bare v k p = subst (λ o. IsRange o (bare_kind k)) (sym (range_bare v)) (bounds_bare (range_in v) k p)

kind_bare : (v : Node) (k : VarKind) → IsKind v k → IsKind (bare_node v) (bare_kind k)
kind_bare (text at s) k p = word_bare (ty_of s) k p
kind_bare (null at) k p = range_kind_bare (null at) k p
kind_bare (truth at b) k p = range_kind_bare (truth at b) k p
kind_bare (number at d) k p = range_kind_bare (number at d) k p
kind_bare (array at vs) k p = range_kind_bare (array at vs) k p
kind_bare (object at ms close) k p = range_kind_bare (object at ms close) k p

-- ---- objects

const_bare : (v : Node) (c : Const) → IsConst v c → IsConst (bare_node v) (bare_const c)
const_bare v c p = record {
  name = keyed_bare K.Name v c.name p.name;
  ty = ap ty_in (part_bare K.Type v) ∙ (ty_bare (part K.Type v) ∙ p.ty);
  value = optional_bare K.Value v IsExpr IsExpr bare c.value expr_bare p.value;
  note = note_bare v c.note p.note;
}

var_bare : (v : Node) (x : Var) → IsVar v x → IsVar (bare_node v) (bare_var x)
var_bare v x p = record {
  name = keyed_bare K.Name v x.name p.name;
  kind = one_bare K.Type v (λ w. IsKindAt w x.kind x.kind_at) (λ w. IsKindAt w (bare_kind x.kind) 0) (λ w i. record { offset = at_bare w; kind = kind_bare w x.kind i.kind }) p.kind;
  transient = p.transient ∙ sym (ap is_true (part_bare K.Transient v) ∙ true_bare (part K.Transient v));
  start = optional_bare K.InitialValue v IsExpr IsExpr bare x.start expr_bare p.start;
  note = note_bare v x.note p.note;
}

write_bare : (v : Node) (w : Write) → IsWrite v w → IsWrite (bare_node v) (bare_write w)
write_bare v w p = record {
  target = keyed_bare K.Ref v w.target p.target;
  value = one_bare K.Value v (λ e. IsExpr e w.value) (λ e. IsExpr e (bare w.value)) (λ e q. expr_bare e w.value q) p.value;
}

location_bare : (v : Node) (l : Location) → IsLocation v l → IsLocation (bare_node v) (bare_location l)
location_bare v l p = record {
  name = keyed_bare K.Name v l.name p.name;
  values = list_bare IsWrite IsWrite bare_write write_bare K.TransientValues v l.values p.values;
}

destination_bare : (v : Node) (d : Destination) → IsDestination v d → IsDestination (bare_node v) (bare_destination d)
destination_bare v d p = record {
  location = keyed_bare K.Location v d.location p.location;
  weight = optional_bare K.Probability v IsBoxed IsBoxed bare d.weight boxed_bare p.weight;
  writes = list_bare IsWrite IsWrite bare_write write_bare K.Assignments v d.writes p.writes;
}

edge_bare : (v : Node) (e : Edge) → IsEdge v e → IsEdge (bare_node v) (bare_edge e)
edge_bare v e p = record {
  location = keyed_bare K.Location v e.location p.location;
  action = optional_bare K.Action v IsNamed IsNamed bare_name e.action name_bare p.action;
  guard = optional_bare K.Guard v IsBoxed IsBoxed bare e.guard boxed_bare p.guard;
  destinations = list_at_bare IsDestination IsDestination bare_destination destination_bare K.Destinations v e.destinations e.at p.destinations;
}

automaton_bare : (v : Node) (a : Automaton) → IsAutomaton v a → IsAutomaton (bare_node v) (bare_automaton a)
automaton_bare v a p = record {
  name = keyed_bare K.Name v a.name p.name;
  variables = list_bare IsVar IsVar bare_var var_bare K.Variables v a.variables p.variables;
  locations = list_bare IsLocation IsLocation bare_location location_bare K.Locations v a.locations p.locations;
  initial = list_bare IsNamed IsNamed bare_name name_bare K.InitialLocations v a.initial p.initial;
  edges = list_bare IsEdge IsEdge bare_edge edge_bare K.Edges v a.edges p.edges;
}

part_of_bare : (v : Node) (x : Option Named) → IsPart v x → IsPart (bare_node v) (bare_part x)
part_of_bare v None e = ap bare_node e ∙ ap null (sym (at_bare v))
part_of_bare v (Some n) e = name_bare v n e

vector_bare : (v : Node) (x : Vector) → IsVector v x → IsVector (bare_node v) (bare_vector x)
vector_bare v x p = record {
  parts = list_at_bare IsPart IsPart bare_part part_of_bare K.Synchronise v x.parts x.at p.parts;
  result = optional_bare K.Result v IsNamed IsNamed bare_name x.result name_bare p.result;
}

always_bare : (o : Option Node) → unless_always (option_map bare_node o) ≡ option_map bare_node (unless_always o)
always_bare None = refl
always_bare (Some v) = ap (λ b. if b then None else Some (bare_node v)) (ap is_true (part_bare K.Exp v) ∙ true_bare (part K.Exp v)) ∙ by_truth (is_true (part K.Exp v))
  where
    by_truth : (b : Bool) → (if b then None else Some (bare_node v)) ≡ option_map bare_node (if b then None else Some v)
    by_truth true = refl
    by_truth false = refl

restrict_bare : (v : Node) (e : Option Expression) → Optional IsBoxed (unless_always (part K.RestrictInitial v)) e → Optional IsBoxed (unless_always (part K.RestrictInitial (bare_node v))) (option_map bare e)
restrict_bare v e p =
    let o = part K.RestrictInitial v in
    subst (λ o. Optional IsBoxed o (option_map bare e)) (sym (ap unless_always (part_bare K.RestrictInitial v) ∙ always_bare o)) (map_bare IsBoxed IsBoxed bare (unless_always o) e boxed_bare p)

kept_bare : (o : Option Node) (p : Node) → IsKept o p → IsKept (option_map bare_node o) (bare_node p)
kept_bare None p e = ap bare_node e
kept_bare (Some v) p e = ap bare_node e

element_bare : (v : Node) (e : Element) → IsElement v e → IsElement (bare_node v) (bare_element e)
element_bare v e p = record {
  name = keyed_bare K.Automaton v e.name p.name;
  enable = list_bare IsNamed IsNamed bare_name name_bare K.InputEnable v e.enable p.enable;
}

system_bare : (v : Node) (f : File) → IsSystem v f.elements f.elements_at f.vectors → IsSystem (bare_node v) (map bare_element f.elements) 0 (map bare_vector f.vectors)
system_bare v f p = record {
  elements_are = list_at_bare IsElement IsElement bare_element element_bare K.Elements v f.elements f.elements_at p.elements_are;
  vectors_are = list_bare IsVector IsVector bare_vector vector_bare K.Syncs v f.vectors p.vectors_are;
}

pub file_bare : PlacesApart
file_bare v f p = record {
  actions = list_bare (IsKeyed K.Name) (IsKeyed K.Name) bare_name (keyed_bare K.Name) K.Actions v f.actions p.actions;
  constants = list_bare IsConst IsConst bare_const const_bare K.Constants v f.constants p.constants;
  variables = list_bare IsVar IsVar bare_var var_bare K.Variables v f.variables p.variables;
  restrict = restrict_bare v f.restrict p.restrict;
  automata = list_bare IsAutomaton IsAutomaton bare_automaton automaton_bare K.Automata v f.automata p.automata;
  system = one_bare K.System v (λ s. IsSystem s f.elements f.elements_at f.vectors) (λ s. IsSystem s (map bare_element f.elements) 0 (map bare_vector f.vectors)) (λ s q. system_bare s f q) p.system;
  properties = subst (λ o. IsKept o (bare_node f.properties)) (sym (part_bare K.Properties v)) (kept_bare (part K.Properties v) f.properties p.properties);
}

pub one_tree : OneTree
one_tree v w f g e p q = same_file (bare_node w) (bare_file f) (bare_file g) (subst (λ x. IsFile x (bare_file f)) e (file_bare v f p)) (file_bare w g q)
