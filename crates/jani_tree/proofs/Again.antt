-- The canonical value of a tree spells the tree.
use Rattle.std.proofs.Common.{◌≡◌, ℕ, refl, sym, subst, List, [], ◌∷◌, Option, Some, None, Bool, true, false, if◌then◌else◌, arith}
use Rattle.std.specs.Prelude.{map}
use Rattle.basics.specs.Each.{each_unit}
use Rattle.bridge_io.specs.declared.reason.Named.{Named}
use Rattle.op_trees.specs.declared.tree.Ty.{Ty}
use Rattle.op_trees.specs.declared.tree.Ty.TheVariants as T
use Rattle.op_trees.specs.Tree.{Truth, Number, Name, One, Two, Three}
use Rattle.jani_table.specs.declared.key.Key.{Key}
use Rattle.jani_table.specs.declared.key.Key.TheVariants as K
use Rattle.jani_table.specs.declared.table.Kind.TheVariants as O
use Rattle.jani_table.specs.declared.operator.JaniOp.{JaniOp}
use Rattle.jani_table.specs.declared.operator.JaniOp.TheVariants.{Ite, Or, And, Not, Equal, Unequal, Less, AtMost, Greater, AtLeast, Add, Sub, Mul, Rem, Div, Floor, Ceil, Implies, Min, Max}
use Rattle.jani_table.specs.Node.{Node, nodes_of}
use Rattle.jani_table.specs.Words.{ty_of, ty_text}
use Rattle.jani_table.specs.Operators.{op_of, op_text, arity}
use Rattle.jani_table.specs.Faults.{op_kind, is_true}
use Rattle.jani_tree.specs.Syntax.{Expression, is_always, Const, VarKind, boolean, integer, number as real, real_bounded, one_sided, bounded, Var, Write, Location, Destination, Edge, Automaton, Element, Vector, File}
use Rattle.jani_tree.specs.Jani.{Optional, Each, IsItems, IsNamed, IsKeyed, IsExpr, IsBoxed, IsKindAt, IsConst, IsVar, IsWrite, IsLocation, IsDestination, IsEdge, IsAutomaton, IsPart, IsElement, IsVector, IsSystem, unless_always, IsFile}
use Rattle.std.specs.List.{AllByRecursion as OfAll}
use Rattle.basics.specs.Options.{IfAny as OfSome}
use Rattle.jani_tree.specs.Canonical.{expr_node, boxed_node, kind_node, const_node, var_node, write_node, location_node, destination_node, edge_node, automaton_node, part_node, element_node, vector_node, system_node, file_node, keyed_node, name_node, list_node, HasOperands, HasBounds, ConstForm, VarForm, WriteForm, LocationForm, DestinationForm, EdgeForm, AutomatonForm, RestrictionForm, FileForm}

-- ---- operators and types

pub op_again : (o : JaniOp) → op_of (op_text o) ≡ Some o
unfolding op_of
op_again Ite = refl
op_again Or = refl
op_again And = refl
op_again Not = refl
op_again Equal = refl
op_again Unequal = refl
op_again Less = refl
op_again AtMost = refl
op_again Greater = refl
op_again AtLeast = refl
op_again Add = refl
op_again Sub = refl
op_again Mul = refl
op_again Rem = refl
op_again Div = refl
op_again Floor = refl
op_again Ceil = refl
op_again Implies = refl
op_again Min = refl
op_again Max = refl

pub kind_one : (o : JaniOp) → arity o ≡ 1 → op_kind o ≡ O.Unary
kind_one Not h = refl
kind_one Floor h = refl
kind_one Ceil h = refl
kind_one o h = absurd (omega arith)

pub kind_two : (o : JaniOp) → arity o ≡ 2 → op_kind o ≡ O.Binary
kind_two Not h = absurd (omega arith)
kind_two Floor h = absurd (omega arith)
kind_two Ceil h = absurd (omega arith)
kind_two Ite h = absurd (omega arith)
kind_two o h = refl

pub kind_three : (o : JaniOp) → arity o ≡ 3 → op_kind o ≡ O.Choice
kind_three Ite h = refl
kind_three o h = absurd (omega arith)

pub ty_again : (t : Ty) → ty_of (ty_text t) ≡ Some t
unfolding ty_of
ty_again T.Bool = refl
ty_again T.Int = refl
ty_again T.Real = refl

-- ---- expressions

expr_again : (e : Expression) → HasOperands e → IsExpr (expr_node e) e
expr_again (Truth at b) h = refl
expr_again (Number at d) h = refl
expr_again (Name at x) h = refl
expr_again (One at o a) h = (record { offset = refl; op = op_again o; takes = kind_one o h.0 }, expr_again a h.1)
expr_again (Two at o a b) h = (record { offset = refl; op = op_again o; takes = kind_two o h.0 }, expr_again a h.1, expr_again b h.2)
expr_again (Three at o a b c) h = (record { offset = refl; op = op_again o; takes = kind_three o h.0 }, expr_again a h.1, expr_again b h.2, expr_again c h.3)

kind_again : (at : ℕ) (k : VarKind) → HasBounds k → IsKindAt (kind_node at k) k at
unfolding ty_of
kind_again at boolean h = record { offset = refl; kind = refl }
kind_again at integer h = record { offset = refl; kind = refl }
kind_again at real h = record { offset = refl; kind = refl }
kind_again at real_bounded h = absurd h
kind_again at one_sided h = absurd h
kind_again at (bounded low high) h = record { offset = refl; kind = record { first = low; last = high; kind = refl; low_is = expr_again low h.0; high_is = expr_again high h.1 } }

-- ---- lists

each_again : {A : Type 0} (P : Node → A → Type 0) (f : A → Node) (F : A → Type 0) → ((x : A) → F x → P (f x) x) → (xs : List A) → OfAll F xs → Each P (nodes_of (map f xs)) xs
each_again P f F again [] h = tt
each_again P f F again (x ∷ xs) h = (again x h.0, each_again P f F again xs h.1)

list_again : {A : Type 0} (P : Node → A → Type 0) (f : A → Node) (F : A → Type 0) → ((x : A) → F x → P (f x) x) → (at : ℕ) (xs : List A) → OfAll F xs → IsItems P (list_node f at xs) xs
list_again P f F again at xs h = record { list = refl; items = each_again P f F again xs h }

plain_again : {A : Type 0} (P : Node → A → Type 0) (f : A → Node) → ((x : A) → P (f x) x) → (at : ℕ) (xs : List A) → IsItems P (list_node f at xs) xs
plain_again P f again at xs = list_again P f (λ x. Unit {0}) (λ x h. again x) at xs (each_unit xs)

-- ---- objects

const_parts : (n : Named) (t : Ty) (value : Option Expression) (note : Option (List ℕ)) → OfSome HasOperands value → let c : Const = record { name = n; ty = t; value = value; note = note } in IsConst (const_node c) c
const_parts n t None None h = record { name = refl; ty = ty_again t; value = tt; note = tt }
const_parts n t None (Some s) h = record { name = refl; ty = ty_again t; value = tt; note = refl }
const_parts n t (Some e) None h = record { name = refl; ty = ty_again t; value = expr_again e h; note = tt }
const_parts n t (Some e) (Some s) h = record { name = refl; ty = ty_again t; value = expr_again e h; note = refl }

const_again : (c : Const) → ConstForm c → IsConst (const_node c) c
const_again c h = const_parts c.name c.ty c.value c.note h

var_parts : (n : Named) (k : VarKind) (at : ℕ) (b : Bool) (start : Option Expression) (note : Option (List ℕ)) → HasBounds k → OfSome HasOperands start →
    let x : Var = record { name = n; kind = k; kind_at = at; transient = b; start = start; note = note } in IsVar (var_node x) x
var_parts n k at true None None g h = record { name = refl; kind = kind_again at k g; transient = refl; start = tt; note = tt }
var_parts n k at true None (Some s) g h = record { name = refl; kind = kind_again at k g; transient = refl; start = tt; note = refl }
var_parts n k at true (Some e) None g h = record { name = refl; kind = kind_again at k g; transient = refl; start = expr_again e h; note = tt }
var_parts n k at true (Some e) (Some s) g h = record { name = refl; kind = kind_again at k g; transient = refl; start = expr_again e h; note = refl }
var_parts n k at false None None g h = record { name = refl; kind = kind_again at k g; transient = refl; start = tt; note = tt }
var_parts n k at false None (Some s) g h = record { name = refl; kind = kind_again at k g; transient = refl; start = tt; note = refl }
var_parts n k at false (Some e) None g h = record { name = refl; kind = kind_again at k g; transient = refl; start = expr_again e h; note = tt }
var_parts n k at false (Some e) (Some s) g h = record { name = refl; kind = kind_again at k g; transient = refl; start = expr_again e h; note = refl }

var_again : (x : Var) → VarForm x → IsVar (var_node x) x
var_again x h = var_parts x.name x.kind x.kind_at x.transient x.start x.note h.kind h.start

write_again : (w : Write) → WriteForm w → IsWrite (write_node w) w
write_again w h = record { target = refl; value = expr_again w.value h }

writes_again : (at : ℕ) (ws : List Write) → OfAll WriteForm ws → IsItems IsWrite (list_node write_node at ws) ws
writes_again at ws h = list_again IsWrite write_node WriteForm write_again at ws h

location_parts : (n : Named) (values : List Write) → OfAll WriteForm values → let l : Location = record { name = n; values = values } in IsLocation (location_node l) l
location_parts n [] h = record { name = refl; values = refl }
location_parts n (w ∷ ws) h = record { name = refl; values = writes_again 0 (w ∷ ws) h }

location_again : (l : Location) → LocationForm l → IsLocation (location_node l) l
location_again l h = location_parts l.name l.values h

boxed_again : (e : Expression) → HasOperands e → IsBoxed (boxed_node e) e
boxed_again e h = expr_again e h

destination_parts : (n : Named) (weight : Option Expression) (writes : List Write) → OfSome HasOperands weight → OfAll WriteForm writes →
    let d : Destination = record { location = n; weight = weight; writes = writes } in IsDestination (destination_node d) d
destination_parts n None [] g h = record { location = refl; weight = tt; writes = refl }
destination_parts n None (w ∷ ws) g h = record { location = refl; weight = tt; writes = writes_again 0 (w ∷ ws) h }
destination_parts n (Some e) [] g h = record { location = refl; weight = boxed_again e g; writes = refl }
destination_parts n (Some e) (w ∷ ws) g h = record { location = refl; weight = boxed_again e g; writes = writes_again 0 (w ∷ ws) h }

destination_again : (d : Destination) → DestinationForm d → IsDestination (destination_node d) d
destination_again d h = destination_parts d.location d.weight d.writes h.weight h.writes

edge_parts : (n : Named) (action : Option Named) (guard : Option Expression) (ds : List Destination) (at : ℕ) → OfSome HasOperands guard → OfAll DestinationForm ds →
    let e : Edge = record { location = n; action = action; guard = guard; destinations = ds; at = at } in IsEdge (edge_node e) e
edge_parts n None None ds at g h = record { location = refl; action = tt; guard = tt; destinations = record { offset = refl; items = list_again IsDestination destination_node DestinationForm destination_again at ds h } }
edge_parts n None (Some e) ds at g h = record { location = refl; action = tt; guard = boxed_again e g; destinations = record { offset = refl; items = list_again IsDestination destination_node DestinationForm destination_again at ds h } }
edge_parts n (Some a) None ds at g h = record { location = refl; action = refl; guard = tt; destinations = record { offset = refl; items = list_again IsDestination destination_node DestinationForm destination_again at ds h } }
edge_parts n (Some a) (Some e) ds at g h = record { location = refl; action = refl; guard = boxed_again e g; destinations = record { offset = refl; items = list_again IsDestination destination_node DestinationForm destination_again at ds h } }

edge_again : (e : Edge) → EdgeForm e → IsEdge (edge_node e) e
edge_again e h = edge_parts e.location e.action e.guard e.destinations e.at h.guard h.destinations

vars_again : (at : ℕ) (xs : List Var) → OfAll VarForm xs → IsItems IsVar (list_node var_node at xs) xs
vars_again at xs h = list_again IsVar var_node VarForm var_again at xs h

automaton_parts : (n : Named) (variables : List Var) (locations : List Location) (initial : List Named) (edges : List Edge) → OfAll VarForm variables → OfAll LocationForm locations → OfAll EdgeForm edges →
    let a : Automaton = record { name = n; variables = variables; locations = locations; initial = initial; edges = edges } in IsAutomaton (automaton_node a) a
automaton_parts n [] ls ns es f g h = record {
  name = refl;
  variables = refl;
  locations = list_again IsLocation location_node LocationForm location_again 0 ls g;
  initial = plain_again IsNamed name_node (λ n. refl) 0 ns;
  edges = list_again IsEdge edge_node EdgeForm edge_again 0 es h;
}
automaton_parts n (x ∷ xs) ls ns es f g h = record {
  name = refl;
  variables = vars_again 0 (x ∷ xs) f;
  locations = list_again IsLocation location_node LocationForm location_again 0 ls g;
  initial = plain_again IsNamed name_node (λ n. refl) 0 ns;
  edges = list_again IsEdge edge_node EdgeForm edge_again 0 es h;
}

automaton_again : (a : Automaton) → AutomatonForm a → IsAutomaton (automaton_node a) a
automaton_again a h = automaton_parts a.name a.variables a.locations a.initial a.edges h.variables h.locations h.edges

-- ---- the composition and the file

part_again : (p : Option Named) → IsPart (part_node p) p
part_again None = refl
part_again (Some n) = refl

vector_parts : (ps : List (Option Named)) (result : Option Named) (at : ℕ) → let x : Vector = record { parts = ps; result = result; at = at } in IsVector (vector_node x) x
vector_parts ps None at = record { parts = record { offset = refl; items = plain_again IsPart part_node part_again at ps }; result = tt }
vector_parts ps (Some n) at = record { parts = record { offset = refl; items = plain_again IsPart part_node part_again at ps }; result = refl }

vector_again : (x : Vector) → IsVector (vector_node x) x
vector_again x = vector_parts x.parts x.result x.at

keyed_again : (ns : List Named) (at : ℕ) (k : Key) → ((n : Named) → IsKeyed k (keyed_node k n) n) → IsItems (IsKeyed k) (list_node (keyed_node k) at ns) ns
keyed_again ns at k h = plain_again (IsKeyed k) (keyed_node k) h at ns

element_parts : (n : Named) (enable : List Named) → let e : Element = record { name = n; enable = enable } in IsElement (element_node e) e
element_parts n [] = record { name = refl; enable = refl }
element_parts n (x ∷ xs) = record { name = refl; enable = plain_again IsNamed name_node (λ n. refl) 0 (x ∷ xs) }

element_again : (e : Element) → IsElement (element_node e) e
element_again e = element_parts e.name e.enable

system_again : (elements : List Element) (at : ℕ) (vectors : List Vector) → IsSystem (system_node elements at vectors) elements at vectors
system_again elements at vectors = record {
  elements_are = record { offset = refl; items = plain_again IsElement element_node element_again at elements };
  vectors_are = plain_again IsVector vector_node vector_again 0 vectors;
}

not_always : (e : Expression) → is_always e ≡ false → is_true (Some (expr_node e)) ≡ false
not_always (Truth at b) h = h
not_always (Number at d) h = refl
not_always (Name at x) h = refl
not_always (One at o a) h = refl
not_always (Two at o a b) h = refl
not_always (Three at o a b c) h = refl

restriction_again : (e : Expression) → RestrictionForm e → Optional IsBoxed (unless_always (Some (boxed_node e))) (Some e)
restriction_again e h = subst (λ b. Optional IsBoxed (if b then None else Some (boxed_node e)) (Some e)) (sym (not_always e h.restricts)) (boxed_again e h.operands)

file_parts : (actions : List Named) (constants : List Const) (variables : List Var) (restrict : Option Expression) (automata : List Automaton) (elements : List Element) (at : ℕ) (vectors : List Vector) (properties : Node) →
    let f : File = record { actions = actions; constants = constants; variables = variables; restrict = restrict; automata = automata; elements = elements; elements_at = at; vectors = vectors; properties = properties } in
    FileForm f → IsFile (file_node f) f
file_parts actions constants variables None automata elements at vectors properties h = record {
  actions = keyed_again actions 0 K.Name (λ n. refl);
  constants = list_again IsConst const_node ConstForm const_again 0 constants h.constants;
  variables = vars_again 0 variables h.variables;
  restrict = tt;
  automata = list_again IsAutomaton automaton_node AutomatonForm automaton_again 0 automata h.automata;
  system = system_again elements at vectors;
  properties = refl;
}
file_parts actions constants variables (Some e) automata elements at vectors properties h = record {
  actions = keyed_again actions 0 K.Name (λ n. refl);
  constants = list_again IsConst const_node ConstForm const_again 0 constants h.constants;
  variables = vars_again 0 variables h.variables;
  restrict = restriction_again e h.restrict;
  automata = list_again IsAutomaton automaton_node AutomatonForm automaton_again 0 automata h.automata;
  system = system_again elements at vectors;
  properties = refl;
}

pub file_again : (f : File) → FileForm f → IsFile (file_node f) f
file_again f h = file_parts f.actions f.constants f.variables f.restrict f.automata f.elements f.elements_at f.vectors f.properties h
