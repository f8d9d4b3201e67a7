-- The trees of values without faults have the form of trees that are read.
use Rattle.std.proofs.Common.{◌≡◌, ℕ, ◌<◌, refl, sym, subst, List, [], ◌∷◌, length, Option, Some, None, Bool, true, false, ◌||◌, not, ap, ◌∙◌, if◌then◌else◌, is_some, arith}
use Rattle.std.specs.Prelude.{IsSomeAnd, bytes_eq, nat_lt}
use Rattle.std.proofs.lemmas.Bool.Decides.{nat_tests}
use Rattle.basics.specs.Lists.{append_left, append_right, IsNotEmpty as HasItems}
use Rattle.bridge_io.specs.declared.reason.Reason.TheVariants.{TooLong}
use Rattle.bridge_io.specs.declared.reason.Named.{Named}
use Rattle.op_trees.specs.declared.tree.Ty.{Ty}
use Rattle.op_trees.specs.declared.tree.Ty.TheVariants as T
use Rattle.op_trees.specs.Tree.{Truth, Number, Name, One, Two, Three}
use Rattle.jani_table.specs.declared.key.Key.{Key}
use Rattle.jani_table.specs.declared.key.Key.TheVariants as K
use Rattle.jani_table.specs.declared.table.Form.{Form}
use Rattle.jani_table.specs.declared.table.Form.TheVariants as F
use Rattle.jani_table.specs.declared.table.Kind.{Kind}
use Rattle.jani_table.specs.declared.table.Kind.TheVariants as O
use Rattle.jani_table.specs.declared.operator.JaniOp.{JaniOp}
use Rattle.jani_table.specs.declared.operator.JaniOp.TheVariants.{Ite, Not, Floor, Ceil}
use Rattle.jani_table.specs.Operators.{arity}
use Rattle.jani_table.specs.Node.{Node, null, truth, number, text, array, object, Nodes, no_nodes, more_nodes, Fields, no_fields, field}
use Rattle.jani_table.specs.Table.{spelled, rows_of}
use Rattle.jani_table.specs.Words.{ty_of, name_fault, unless}
use Rattle.jani_table.specs.Faults.{faults, own_faults, missing_faults, other_faults, members_faults, items_faults, list_items_faults, object_faults, fault_if, part, part_form, is_known, is_true, member_text, items_in, op_kind}
use Rattle.jani_table.specs.Parts.{is_plain, kind_of}
use Rattle.jani_table.specs.Laws as laws
use Rattle.jani_table.specs.Laws.{plain_part_there, part_clean, object_clean, list_clean, items_in_clean, unless_clean}
use Rattle.jani_tree.specs.Syntax.{Expression, is_always, Const, VarKind, Var, Write, Location, Destination, Edge, Automaton, Element, Vector, File}
use Rattle.jani_tree.specs.Jani.{Optional, Each, IsItems, IsList, IsListAt, IsNamed, IsKeyed, IsOperation, IsExpr, IsBoxed, range_of, ty_in, IsWord, IsRange, IsKind, IsKindAt, IsConst, IsVar, IsWrite, IsLocation, IsDestination, IsEdge, IsAutomaton, IsElement, IsPart, IsVector, IsSystem, unless_always, IsKept, IsFile}
use Rattle.std.specs.List.{AllByRecursion as OfAll}
use Rattle.basics.specs.Options.{IfAny as OfSome}
use Rattle.jani_tree.specs.Form.{IsGiven, IsShortName, NormalNode, NormalNodes, NormalFields, NameForm, ExprForm, KindForm, ConstRead, VarRead, WriteRead, LocationRead, DestinationRead, EdgeRead, AutomatonRead, ElementRead, PartForm, VectorRead, RestrictionRead, FileShort, KeysOnce, KeysApart}

-- ---- parts

chosen_normal : (b : Bool) (v w : Node) (o : Option Node) → NormalNode v → (o ≡ Some w → NormalNode w) → (if b then Some v else o) ≡ Some w → NormalNode w
chosen_normal true v w o n h e = subst NormalNode (let same : v ≡ w = cc in same) n
chosen_normal false v w o n h e = h e

member_normal : (s : List ℕ) (ms : Fields) (w : Node) → NormalFields ms → member_text s ms ≡ Some w → NormalNode w
member_normal s no_fields w n e = absurd cc
member_normal s (field k v rest) w n e = chosen_normal (bytes_eq s k.name) v w (member_text s rest) n.0 (member_normal s rest w n.1) e

part_normal : (k : Key) (v w : Node) → NormalNode v → part k v ≡ Some w → NormalNode w
part_normal k (object at ms close) w n e = member_normal (spelled k) ms w n e
part_normal k (null at) w n e = absurd cc
part_normal k (truth at b) w n e = absurd cc
part_normal k (number at d) w n e = absurd cc
part_normal k (text at s) w n e = absurd cc
part_normal k (array at vs) w n e = absurd cc

-- ---- keys

chosen_once : (b : Bool) (v w : Node) (o : Option Node) → KeysOnce v → (o ≡ Some w → KeysOnce w) → (if b then Some v else o) ≡ Some w → KeysOnce w
chosen_once true v w o n h e = subst KeysOnce (let same : v ≡ w = cc in same) n
chosen_once false v w o n h e = h e

member_once : (s : List ℕ) (ms : Fields) (w : Node) → KeysApart ms → member_text s ms ≡ Some w → KeysOnce w
member_once s no_fields w n e = absurd cc
member_once s (field k v rest) w n e = chosen_once (bytes_eq s k.name) v w (member_text s rest) n.1 (member_once s rest w n.2) e

part_once : (k : Key) (v w : Node) → KeysOnce v → part k v ≡ Some w → KeysOnce w
part_once k (object at ms close) w n e = member_once (spelled k) ms w n e
part_once k (null at) w n e = absurd cc
part_once k (truth at b) w n e = absurd cc
part_once k (number at d) w n e = absurd cc
part_once k (text at s) w n e = absurd cc
part_once k (array at vs) w n e = absurd cc

kept_once : (o : Option Node) (p : Node) → ((w : Node) → o ≡ Some w → KeysOnce w) → IsKept o p → KeysOnce p
kept_once None p n e = subst KeysOnce (sym e) tt
kept_once (Some v) p n e = subst KeysOnce (sym e) (n v refl)

pub file_once : (v : Node) (x : File) → IsFile v x → KeysOnce v → KeysOnce x.properties
file_once v x p n = kept_once (part K.Properties v) x.properties (λ w e. part_once K.Properties v w n e) p.properties

-- ---- parts of objects

items_normal : (v : Node) → NormalNode v → NormalNodes (items_in v)
items_normal (array at vs) n = n
items_normal (object at ms close) n = tt
items_normal (null at) n = tt
items_normal (truth at b) n = tt
items_normal (number at d) n = tt
items_normal (text at s) n = tt

some_of : (o : Option Node) (P : Node → Type 0) → IsSomeAnd o P → (w : Node) × (o ≡ Some w) × P w
some_of None P p = absurd p
some_of (Some w) P p = (w, refl, p)

-- a required member of an object
operand_read : (kind : Kind) (key : Key) (v : Node) (P : Node → Type 0) (R : Type 0) → is_known kind key ≡ true → object_faults kind v ≡ [] → NormalNode v → IsSomeAnd (part key v) P →
    ((w : Node) → faults (part_form kind key) w ≡ [] → NormalNode w → P w → R) → R
operand_read kind key v P R k c n p h = let s = some_of (part key v) P p in h s.0 (part_clean kind key v s.0 k c s.1) (part_normal key v s.0 n s.1) s.2

optional_of : {A : Type 0} (P : Node → A → Type 0) (R : A → Type 0) (o : Option Node) (x : Option A) → ((w : Node) (x : A) → o ≡ Some w → P w x → R x) → Optional P o x → OfSome R x
optional_of P R None None h p = tt
optional_of P R None (Some x) h p = absurd p
optional_of P R (Some w) None h p = absurd p
optional_of P R (Some w) (Some x) h p = h w x refl p

module _ (form : Form) (key : Key) (v : Node) (plain : is_plain form ≡ true) (known : is_known (kind_of form) key ≡ true) (c : faults form v ≡ []) (n : NormalNode v) where
  one_read : (P : Node → Type 0) (R : Type 0) → IsSomeAnd (part key v) P → ((w : Node) → faults (part_form (kind_of form) key) w ≡ [] → NormalNode w → P w → R) → R
  one_read P R p h = operand_read (kind_of form) key v P R known (object_clean form v plain c) n p h

  part_read : (w : Node) → part key v ≡ Some w → faults (part_form (kind_of form) key) w ≡ []
  part_read w e = part_clean (kind_of form) key v w known (object_clean form v plain c) e

  -- a member that may be missing
  optional_read : {A : Type 0} (P : Node → A → Type 0) (R : A → Type 0) (x : Option A) → Optional P (part key v) x → ((w : Node) (x : A) → faults (part_form (kind_of form) key) w ≡ [] → NormalNode w → P w x → R x) → OfSome R x
  optional_read P R x p h = optional_of P R (part key v) x (λ w y e q. h w y (part_read w e) (part_normal key v w n e) q) p

each_read : {A : Type 0} (item : Form) (P : Node → A → Type 0) (R : A → Type 0) → ((w : Node) (x : A) → faults item w ≡ [] → NormalNode w → P w x → R x) → (vs : Nodes) (xs : List A) → items_faults item vs ≡ [] → NormalNodes vs → Each P vs xs → OfAll R xs
each_read item P R h no_nodes [] c n p = tt
each_read item P R h no_nodes (x ∷ xs) c n p = absurd p
each_read item P R h (more_nodes v vs) [] c n p = absurd p
each_read item P R h (more_nodes v vs) (x ∷ xs) c n p = (h v x (append_left (faults item v) (items_faults item vs) c) n.0 p.0, each_read item P R h vs xs (append_right (faults item v) (items_faults item vs) c) n.1 p.1)

items_read : {A : Type 0} (item : Form) (P : Node → A → Type 0) (R : A → Type 0) → ((w : Node) (x : A) → faults item w ≡ [] → NormalNode w → P w x → R x) → (v : Node) (xs : List A) → list_items_faults item v ≡ [] → NormalNode v → IsItems P v xs → OfAll R xs
items_read item P R h v xs c n p = each_read item P R h (items_in v) xs (items_in_clean item v c) (items_normal v n) p.items

-- a list that may be missing
maybe_read : {A : Type 0} (item : Form) (P : Node → A → Type 0) (R : A → Type 0) → ((w : Node) (x : A) → faults item w ≡ [] → NormalNode w → P w x → R x) → (o : Option Node) (xs : List A) → ((w : Node) → o ≡ Some w → list_items_faults item w ≡ []) → ((w : Node) → o ≡ Some w → NormalNode w) → IsList P o xs → OfAll R xs
maybe_read item P R h None xs c n p = subst (OfAll R) (sym p) tt
maybe_read item P R h (Some v) xs c n p = items_read item P R h v xs (c v refl) (n v refl) p

-- ---- names and expressions

within : (n at : ℕ) (t : Bool) → nat_lt n 256 ≡ t → fault_if at (unless t TooLong) ≡ [] → n < 256
within n at true e c = grind (arith, nat_tests)
within n at false e c = absurd cc

name_text : (at : ℕ) (s : List ℕ) → fault_if at (name_fault s) ≡ [] → IsShortName s
name_text at [] c = absurd cc
name_text at (b ∷ bs) c = record { some = tt; short = within (length (b ∷ bs)) at (nat_lt (length (b ∷ bs)) 256) refl c }

name_read : (w : Node) (n : Named) → faults F.Name w ≡ [] → NormalNode w → IsNamed w n → (NameForm IsShortName) n
name_read w n c m e = name_text n.at n.name (subst (λ x. faults F.Name x ≡ []) e c)

unary_arity : (o : JaniOp) → op_kind o ≡ O.Unary → arity o ≡ 1
unary_arity Not h = refl
unary_arity Floor h = refl
unary_arity Ceil h = refl
unary_arity Ite h = absurd cc
unary_arity o h = absurd cc

binary_arity : (o : JaniOp) → op_kind o ≡ O.Binary → arity o ≡ 2
binary_arity Not h = absurd cc
binary_arity Floor h = absurd cc
binary_arity Ceil h = absurd cc
binary_arity Ite h = absurd cc
binary_arity o h = refl

choice_arity : (o : JaniOp) → op_kind o ≡ O.Choice → arity o ≡ 3
choice_arity Not h = absurd cc
choice_arity Floor h = absurd cc
choice_arity Ceil h = absurd cc
choice_arity Ite h = refl
choice_arity o h = absurd cc

operation_faults : (v : Node) (at : ℕ) (o : JaniOp) (k : Kind) → IsOperation v at o k → faults F.Expression v ≡ [] → object_faults k v ≡ []
operation_faults (object from ms close) at o k i c = subst (λ k. object_faults k (object from ms close) ≡ []) i.takes (laws.operation_clean from ms close o i.op c)
operation_faults (null from) at o k i c = absurd (let e = i.op in cc)
operation_faults (truth from b) at o k i c = absurd (let e = i.op in cc)
operation_faults (number from d) at o k i c = absurd (let e = i.op in cc)
operation_faults (text from s) at o k i c = absurd (let e = i.op in cc)
operation_faults (array from vs) at o k i c = absurd (let e = i.op in cc)

expr_read : (v : Node) (e : Expression) → faults F.Expression v ≡ [] → NormalNode v → IsExpr v e → (ExprForm IsShortName) e
expr_read v (Truth at b) c n p = tt
expr_read v (Number at d) c n p = subst NormalNode p n
expr_read v (Name at x) c n p = name_text at x (subst (λ w. faults F.Expression w ≡ []) p c)
expr_read v (One at o a) c n p =
    let k = operation_faults v at o O.Unary p.0 c in
    (unary_arity o p.0.takes, operand_read O.Unary K.Exp v (λ w. IsExpr w a) ((ExprForm IsShortName) a) refl k n p.1 (λ w c n q. expr_read w a c n q))
expr_read v (Two at o a b) c n p =
    let k = operation_faults v at o O.Binary p.0 c in (
      binary_arity o p.0.takes,
      operand_read O.Binary K.Left v (λ w. IsExpr w a) ((ExprForm IsShortName) a) refl k n p.1 (λ w c n q. expr_read w a c n q),
      operand_read O.Binary K.Right v (λ w. IsExpr w b) ((ExprForm IsShortName) b) refl k n p.2 (λ w c n q. expr_read w b c n q),
    )
expr_read v (Three at o a b d) c n p =
    let k = operation_faults v at o O.Choice p.0 c in (
      choice_arity o p.0.takes,
      operand_read O.Choice K.If v (λ w. IsExpr w a) ((ExprForm IsShortName) a) refl k n p.1 (λ w c n q. expr_read w a c n q),
      operand_read O.Choice K.Then v (λ w. IsExpr w b) ((ExprForm IsShortName) b) refl k n p.2 (λ w c n q. expr_read w b c n q),
      operand_read O.Choice K.Else v (λ w. IsExpr w d) ((ExprForm IsShortName) d) refl k n p.3 (λ w c n q. expr_read w d c n q),
    )

boxed_read : (v : Node) (e : Expression) → faults F.Boxed v ≡ [] → NormalNode v → IsBoxed v e → (ExprForm IsShortName) e
boxed_read v e c n p = one_read F.Boxed K.Exp v refl refl c n (λ w. IsExpr w e) ((ExprForm IsShortName) e) p (λ w c n q. expr_read w e c n q)

-- ---- types

word_read : (o : Option Ty) (k : VarKind) → IsWord o k → (KindForm IsShortName) k
word_read None k p = absurd p
word_read (Some T.Bool) k p = subst (KindForm IsShortName) (sym p) tt
word_read (Some T.Int) k p = subst (KindForm IsShortName) (sym p) tt
word_read (Some T.Real) k p = subst (KindForm IsShortName) (sym p) tt

-- the bounds of a bounded type have no faults
bounds_read : (t : Option Ty) (low high : Option Node) (k : VarKind) → ((w : Node) → low ≡ Some w → (faults F.Expression w ≡ []) × NormalNode w) → ((w : Node) → high ≡ Some w → (faults F.Expression w ≡ []) × NormalNode w) → IsRange (range_of t low high) k → (KindForm IsShortName) k
bounds_read None low high k f g p = absurd p
bounds_read (Some T.Bool) low high k f g p = absurd p
bounds_read (Some T.Real) low high k f g p = subst (KindForm IsShortName) (sym p) tt
bounds_read (Some T.Int) None None k f g p = subst (KindForm IsShortName) (sym p) tt
bounds_read (Some T.Int) None (Some h) k f g p = subst (KindForm IsShortName) (sym p) tt
bounds_read (Some T.Int) (Some l) None k f g p = subst (KindForm IsShortName) (sym p) tt
bounds_read (Some T.Int) (Some l) (Some h) k f g p =
    let a = f l refl in let b = g h refl in
    subst (KindForm IsShortName) (sym p.kind) (expr_read l p.first a.0 a.1 p.low_is, expr_read h p.last b.0 b.1 p.high_is)

kind_read : (v : Node) (k : VarKind) → faults F.VariableType v ≡ [] → NormalNode v → IsKind v k → (KindForm IsShortName) k
kind_read (text at s) k c n p = word_read (ty_of s) k p
kind_read (object at ms close) k c n p =
    let v : Node = object at ms close in
    bounds_read (ty_in (part K.Base v)) (part K.LowerBound v) (part K.UpperBound v) k
    (λ w e. (part_clean O.Range K.LowerBound v w refl c e, part_normal K.LowerBound v w n e))
    (λ w e. (part_clean O.Range K.UpperBound v w refl c e, part_normal K.UpperBound v w n e)) p
kind_read (null at) k c n p = absurd p
kind_read (truth at b) k c n p = absurd p
kind_read (number at d) k c n p = absurd p
kind_read (array at vs) k c n p = absurd p

-- ---- objects

const_read : (v : Node) (x : Const) → faults F.Constant v ≡ [] → NormalNode v → IsConst v x → (ConstRead IsShortName) x
const_read v x c n p = record {
  name = one_read F.Constant K.Name v refl refl c n (λ w. IsNamed w x.name) ((NameForm IsShortName) x.name) p.name (λ w c n q. name_read w x.name c n q);
  value = optional_read F.Constant K.Value v refl refl c n IsExpr (ExprForm IsShortName) x.value p.value expr_read;
}

asked_for : (a b : Bool) → (a || not b) ≡ true → b ≡ true → a ≡ true
asked_for true b h t = refl
asked_for false true h t = absurd cc
asked_for false false h t = absurd cc

-- a transient variable has a first value
start_there : (v : Node) → object_faults O.Variable v ≡ [] → is_true (part K.Transient v) ≡ true → is_some (part K.InitialValue v) ≡ true
start_there (object at ms close) c t =
    let v : Node = object at ms close in
    asked_for (is_some (part K.InitialValue v)) (is_true (part K.Transient v))
    (unless_clean (is_some (part K.InitialValue v) || not (is_true (part K.Transient v))) close _
    (append_right (missing_faults ms close (rows_of O.Variable)) (other_faults O.Variable ms at close) (append_right (members_faults O.Variable ms) (own_faults O.Variable ms at close) c))) t
start_there (null at) c t = absurd cc
start_there (truth at b) c t = absurd cc
start_there (number at d) c t = absurd cc
start_there (text at s) c t = absurd cc
start_there (array at vs) c t = absurd cc

given_of : {A : Type 0} (P : Node → A → Type 0) (o : Option Node) (x : Option A) → is_some o ≡ true → Optional P o x → IsGiven x
given_of P o (Some x) s p = tt
given_of P None None s p = absurd cc
given_of P (Some w) None s p = absurd p

var_read : (v : Node) (x : Var) → faults F.Variable v ≡ [] → NormalNode v → IsVar v x → (VarRead IsShortName) x
var_read v x c n p = record {
  name = one_read F.Variable K.Name v refl refl c n (λ w. IsNamed w x.name) ((NameForm IsShortName) x.name) p.name (λ w c n q. name_read w x.name c n q);
  kind = one_read F.Variable K.Type v refl refl c n (λ w. IsKindAt w x.kind x.kind_at) ((KindForm IsShortName) x.kind) p.kind (λ w c n q. kind_read w x.kind c n q.kind);
  start = optional_read F.Variable K.InitialValue v refl refl c n IsExpr (ExprForm IsShortName) x.start p.start expr_read;
  begins = λ t. given_of IsExpr (part K.InitialValue v) x.start (start_there v (object_clean F.Variable v refl c) (sym p.transient ∙ t)) p.start;
}

value_read : (v : Node) (x : Write) → faults F.TransientValue v ≡ [] → NormalNode v → IsWrite v x → (WriteRead IsShortName) x
value_read v x c n p = record {
  target = one_read F.TransientValue K.Ref v refl refl c n (λ w. IsNamed w x.target) ((NameForm IsShortName) x.target) p.target (λ w c n q. name_read w x.target c n q);
  value = one_read F.TransientValue K.Value v refl refl c n (λ w. IsExpr w x.value) ((ExprForm IsShortName) x.value) p.value (λ w c n q. expr_read w x.value c n q);
}

assignment_read : (v : Node) (x : Write) → faults F.Assignment v ≡ [] → NormalNode v → IsWrite v x → (WriteRead IsShortName) x
assignment_read v x c n p = record {
  target = one_read F.Assignment K.Ref v refl refl c n (λ w. IsNamed w x.target) ((NameForm IsShortName) x.target) p.target (λ w c n q. name_read w x.target c n q);
  value = one_read F.Assignment K.Value v refl refl c n (λ w. IsExpr w x.value) ((ExprForm IsShortName) x.value) p.value (λ w c n q. expr_read w x.value c n q);
}

location_read : (v : Node) (x : Location) → faults F.Location v ≡ [] → NormalNode v → IsLocation v x → (LocationRead IsShortName) x
location_read v x c n p = record {
  name = one_read F.Location K.Name v refl refl c n (λ w. IsNamed w x.name) ((NameForm IsShortName) x.name) p.name (λ w c n q. name_read w x.name c n q);
  values = maybe_read F.TransientValue IsWrite (WriteRead IsShortName) value_read (part K.TransientValues v) x.values (λ w e. list_clean F.TransientValues w refl (part_read F.Location K.TransientValues v refl refl c n w e)) (λ w e. part_normal K.TransientValues v w n e) p.values;
}

destination_read : (v : Node) (x : Destination) → faults F.Destination v ≡ [] → NormalNode v → IsDestination v x → (DestinationRead IsShortName) x
destination_read v x c n p = record {
  location = one_read F.Destination K.Location v refl refl c n (λ w. IsNamed w x.location) ((NameForm IsShortName) x.location) p.location (λ w c n q. name_read w x.location c n q);
  weight = optional_read F.Destination K.Probability v refl refl c n IsBoxed (ExprForm IsShortName) x.weight p.weight boxed_read;
  writes = maybe_read F.Assignment IsWrite (WriteRead IsShortName) assignment_read (part K.Assignments v) x.writes (λ w e. list_clean F.Assignments w refl (part_read F.Destination K.Assignments v refl refl c n w e)) (λ w e. part_normal K.Assignments v w n e) p.writes;
}

-- there is a destination
some_destination : (v : Node) (xs : List Destination) → faults F.Destinations v ≡ [] → IsItems IsDestination v xs → HasItems xs
some_destination (array at no_nodes) xs c p = absurd cc
some_destination (array at (more_nodes v vs)) [] c p = absurd p.items
some_destination (array at (more_nodes v vs)) (x ∷ xs) c p = tt
some_destination (null at) xs c p = absurd cc
some_destination (truth at b) xs c p = absurd cc
some_destination (number at d) xs c p = absurd cc
some_destination (text at s) xs c p = absurd cc
some_destination (object at ms close) xs c p = absurd cc

edge_read : (v : Node) (x : Edge) → faults F.Edge v ≡ [] → NormalNode v → IsEdge v x → (EdgeRead IsShortName) x
edge_read v x c n p = record {
  location = one_read F.Edge K.Location v refl refl c n (λ w. IsNamed w x.location) ((NameForm IsShortName) x.location) p.location (λ w c n q. name_read w x.location c n q);
  action = optional_read F.Edge K.Action v refl refl c n IsNamed (NameForm IsShortName) x.action p.action name_read;
  guard = optional_read F.Edge K.Guard v refl refl c n IsBoxed (ExprForm IsShortName) x.guard p.guard boxed_read;
  destinations = one_read F.Edge K.Destinations v refl refl c n (λ w. IsListAt IsDestination w x.destinations x.at) (OfAll (DestinationRead IsShortName) x.destinations) p.destinations (λ w c n q. items_read F.Destination IsDestination (DestinationRead IsShortName) destination_read w x.destinations (list_clean F.Destinations w refl c) n q.items);
  some = one_read F.Edge K.Destinations v refl refl c n (λ w. IsListAt IsDestination w x.destinations x.at) (HasItems x.destinations) p.destinations (λ w c n q. some_destination w x.destinations c q.items);
}

-- there is an initial location
some_initial : (v : Node) (xs : List Named) → faults F.InitialLocations v ≡ [] → IsItems IsNamed v xs → HasItems xs
some_initial (array at no_nodes) xs c p = absurd cc
some_initial (array at (more_nodes v vs)) [] c p = absurd p.items
some_initial (array at (more_nodes v vs)) (x ∷ xs) c p = tt
some_initial (null at) xs c p = absurd cc
some_initial (truth at b) xs c p = absurd cc
some_initial (number at d) xs c p = absurd cc
some_initial (text at s) xs c p = absurd cc
some_initial (object at ms close) xs c p = absurd cc

initial_there : (o : Option Node) (xs : List Named) → is_some o ≡ true → ((w : Node) → o ≡ Some w → faults F.InitialLocations w ≡ []) → IsList IsNamed o xs → HasItems xs
initial_there None xs s c p = absurd cc
initial_there (Some w) xs s c p = some_initial w xs (c w refl) p

automaton_read : (v : Node) (x : Automaton) → faults F.Automaton v ≡ [] → NormalNode v → IsAutomaton v x → (AutomatonRead IsShortName) x
automaton_read v x c n p = record {
  name = one_read F.Automaton K.Name v refl refl c n (λ w. IsNamed w x.name) ((NameForm IsShortName) x.name) p.name (λ w c n q. name_read w x.name c n q);
  variables = maybe_read F.Variable IsVar (VarRead IsShortName) var_read (part K.Variables v) x.variables (λ w e. list_clean F.Variables w refl (part_read F.Automaton K.Variables v refl refl c n w e)) (λ w e. part_normal K.Variables v w n e) p.variables;
  locations = maybe_read F.Location IsLocation (LocationRead IsShortName) location_read (part K.Locations v) x.locations (λ w e. list_clean F.Locations w refl (part_read F.Automaton K.Locations v refl refl c n w e)) (λ w e. part_normal K.Locations v w n e) p.locations;
  initial = maybe_read F.Name IsNamed (NameForm IsShortName) name_read (part K.InitialLocations v) x.initial (λ w e. list_clean F.InitialLocations w refl (part_read F.Automaton K.InitialLocations v refl refl c n w e)) (λ w e. part_normal K.InitialLocations v w n e) p.initial;
  begins = initial_there (part K.InitialLocations v) x.initial (plain_part_there F.Automaton K.InitialLocations v refl refl c) (λ w e. part_read F.Automaton K.InitialLocations v refl refl c n w e) p.initial;
  edges = maybe_read F.Edge IsEdge (EdgeRead IsShortName) edge_read (part K.Edges v) x.edges (λ w e. list_clean F.Edges w refl (part_read F.Automaton K.Edges v refl refl c n w e)) (λ w e. part_normal K.Edges v w n e) p.edges;
}

part_form_read : (w : Node) (x : Option Named) → faults F.NameOrNull w ≡ [] → NormalNode w → IsPart w x → (PartForm IsShortName) x
part_form_read w None c n p = tt
part_form_read w (Some m) c n p = name_text m.at m.name (subst (λ x. faults F.NameOrNull x ≡ []) p c)

vector_read : (v : Node) (x : Vector) → faults F.Vector v ≡ [] → NormalNode v → IsVector v x → (VectorRead IsShortName) x
vector_read v x c n p = record {
  parts = one_read F.Vector K.Synchronise v refl refl c n (λ w. IsListAt IsPart w x.parts x.at) (OfAll (PartForm IsShortName) x.parts) p.parts (λ w c n q. items_read F.NameOrNull IsPart (PartForm IsShortName) part_form_read w x.parts (list_clean F.Synchronise w refl c) n q.items);
  result = optional_read F.Vector K.Result v refl refl c n IsNamed (NameForm IsShortName) x.result p.result name_read;
}

keyed_action : (v : Node) (x : Named) → faults F.Action v ≡ [] → NormalNode v → IsKeyed K.Name v x → (NameForm IsShortName) x
keyed_action v x c n p = one_read F.Action K.Name v refl refl c n (λ w. IsNamed w x) ((NameForm IsShortName) x) p (λ w c n q. name_read w x c n q)

element_read : (v : Node) (x : Element) → faults F.Element v ≡ [] → NormalNode v → IsElement v x → (ElementRead IsShortName) x
element_read v x c n p = record {
  name = one_read F.Element K.Automaton v refl refl c n (λ w. IsNamed w x.name) ((NameForm IsShortName) x.name) p.name (λ w c n q. name_read w x.name c n q);
  enable = maybe_read F.Name IsNamed (NameForm IsShortName) name_read (part K.InputEnable v) x.enable (λ w e. list_clean F.InputEnable w refl (part_read F.Element K.InputEnable v refl refl c n w e)) (λ w e. part_normal K.InputEnable v w n e) p.enable;
}

elements_read : (v : Node) (xs : List Element) (at : ℕ) (ys : List Vector) → faults F.System v ≡ [] → NormalNode v → IsSystem v xs at ys → OfAll (ElementRead IsShortName) xs
elements_read v xs at ys c n p = one_read F.System K.Elements v refl refl c n (λ w. IsListAt IsElement w xs at) (OfAll (ElementRead IsShortName) xs) p.elements_are (λ w c n q. items_read F.Element IsElement (ElementRead IsShortName) element_read w xs (list_clean F.Elements w refl c) n q.items)

vectors_read : (v : Node) (xs : List Element) (at : ℕ) (ys : List Vector) → faults F.System v ≡ [] → NormalNode v → IsSystem v xs at ys → OfAll (VectorRead IsShortName) ys
vectors_read v xs at ys c n p = maybe_read F.Vector IsVector (VectorRead IsShortName) vector_read (part K.Syncs v) ys (λ w e. list_clean F.Vectors w refl (part_read F.System K.Syncs v refl refl c n w e)) (λ w e. part_normal K.Syncs v w n e) p.vectors_are

kept_normal : (o : Option Node) (p : Node) → ((w : Node) → o ≡ Some w → NormalNode w) → IsKept o p → NormalNode p
kept_normal None p n e = subst NormalNode (sym e) tt
kept_normal (Some v) p n e = subst NormalNode (sym e) (n v refl)

-- ---- the condition on the initial states

not_always : (o : Option Node) (e : Expression) → is_true o ≡ false → IsSomeAnd o (λ w. IsExpr w e) → is_always e ≡ false
not_always None e t p = absurd p
not_always (Some w) (Truth at b) t p = sym (ap (λ w. is_true (Some w)) p) ∙ t
not_always (Some w) (Number at d) t p = refl
not_always (Some w) (Name at x) t p = refl
not_always (Some w) (One at o a) t p = refl
not_always (Some w) (Two at o a b) t p = refl
not_always (Some w) (Three at o a b d) t p = refl

restriction_read : (o : Option Node) (x : Option Expression) → ((w : Node) → o ≡ Some w → (faults F.Boxed w ≡ []) × NormalNode w) → Optional IsBoxed (unless_always o) x → OfSome (RestrictionRead IsShortName) x
restriction_read None None h p = tt
restriction_read None (Some e) h p = absurd p
restriction_read (Some v) x h p = by_truth (is_true (part K.Exp v)) refl x p
  where
    by_truth : (b : Bool) → is_true (part K.Exp v) ≡ b → (x : Option Expression) → Optional IsBoxed (if b then None else Some v) x → OfSome (RestrictionRead IsShortName) x
    by_truth true t None p = tt
    by_truth true t (Some e) p = absurd p
    by_truth false t None p = absurd p
    by_truth false t (Some e) p = let g = h v refl in record { expression = boxed_read v e g.0 g.1 p; restricts = not_always (part K.Exp v) e t p }

pub file_read : (v : Node) (x : File) → faults F.Model v ≡ [] → NormalNode v → IsFile v x → FileShort x
file_read v x c n p = record {
  actions = maybe_read F.Action (IsKeyed K.Name) (NameForm IsShortName) keyed_action (part K.Actions v) x.actions (λ w e. list_clean F.Actions w refl (part_read F.Model K.Actions v refl refl c n w e)) (λ w e. part_normal K.Actions v w n e) p.actions;
  constants = maybe_read F.Constant IsConst (ConstRead IsShortName) const_read (part K.Constants v) x.constants (λ w e. list_clean F.Constants w refl (part_read F.Model K.Constants v refl refl c n w e)) (λ w e. part_normal K.Constants v w n e) p.constants;
  variables = maybe_read F.Variable IsVar (VarRead IsShortName) var_read (part K.Variables v) x.variables (λ w e. list_clean F.Variables w refl (part_read F.Model K.Variables v refl refl c n w e)) (λ w e. part_normal K.Variables v w n e) p.variables;
  restrict = restriction_read (part K.RestrictInitial v) x.restrict (λ w e. (part_read F.Model K.RestrictInitial v refl refl c n w e, part_normal K.RestrictInitial v w n e)) p.restrict;
  automata = maybe_read F.Automaton IsAutomaton (AutomatonRead IsShortName) automaton_read (part K.Automata v) x.automata (λ w e. list_clean F.Automata w refl (part_read F.Model K.Automata v refl refl c n w e)) (λ w e. part_normal K.Automata v w n e) p.automata;
  elements = one_read F.Model K.System v refl refl c n (λ w. IsSystem w x.elements x.elements_at x.vectors) (OfAll (ElementRead IsShortName) x.elements) p.system (λ w c n q. elements_read w x.elements x.elements_at x.vectors c n q);
  vectors = one_read F.Model K.System v refl refl c n (λ w. IsSystem w x.elements x.elements_at x.vectors) (OfAll (VectorRead IsShortName) x.vectors) p.system (λ w c n q. vectors_read w x.elements x.elements_at x.vectors c n q);
  properties = kept_normal (part K.Properties v) x.properties (λ w e. part_normal K.Properties v w n e) p.properties;
}
