-- Which faults a value has does not depend on places: a value with every offset 0 has the same faults, each at 0.
use Rattle.std.proofs.Common.{◌≡◌, ℕ, refl, sym, ap, ap₂, ◌∙◌, List, [], ◌∷◌, ◌++◌, map, Option, Some, None, Bool, true, false, ◌||◌, not, is_some}
use Rattle.std.specs.Prelude.{codes}
use Rattle.std.specs.Option.{option_map}
use Rattle.bridge_io.specs.declared.reason.Reason.{Reason}
use Rattle.bridge_io.specs.declared.reason.Reason.TheVariants.{MissingMember, UnknownMember, LeftOut}
use Rattle.bridge_io.specs.declared.reason.Fault.{Fault}
use Rattle.jani_table.specs.declared.key.Key.{Key}
use Rattle.jani_table.specs.declared.key.Key.TheVariants as K
use Rattle.jani_table.specs.declared.table.Form.{Form}
use Rattle.jani_table.specs.declared.table.Form.TheVariants as F
use Rattle.jani_table.specs.declared.table.Kind.{Kind}
use Rattle.jani_table.specs.declared.table.Kind.TheVariants as O
use Rattle.jani_table.specs.Node.{Node, null, truth, number, text, array, object, Nodes, no_nodes, more_nodes, Fields, no_fields, field}
use Rattle.jani_table.specs.Table.{Row, spelled, rows_of, is_required, known_form, item_form}
use Rattle.jani_table.specs.Words.{kind_fault, null_fault, truth_fault, number_fault, word_fault}
use Rattle.jani_table.specs.Faults.{fault, fault_if, fault_unless, faults, items_faults, members_faults, own_faults, other_faults, missing_faults, row_faults, list_faults, bound_faults, first_of, none_faults, member, has, by_form, by_kind, object_kind, op_in, or_unclear, is_true, is_word}
use Rattle.jani_tree.specs.Places.{bare_node, bare_nodes, bare_fields}
use Rattle.jani_tree.proofs.Bare.{member_bare, op_bare, true_bare}

abbrev bare_fault : Fault → Fault
bare_fault x = record { reason = x.reason; at = 0 }

abbrev bare_faults : List Fault → List Fault
bare_faults = map bare_fault

-- ---- lists of faults

joined_bare : (xs ys : List Fault) → bare_faults (xs ++ ys) ≡ bare_faults xs ++ bare_faults ys
joined_bare [] ys = refl
joined_bare (x ∷ xs) ys = ap (λ zs. bare_fault x ∷ zs) (joined_bare xs ys)

-- two lists joined
two_bare : (xs ys vs ws : List Fault) → vs ≡ bare_faults xs → ws ≡ bare_faults ys → vs ++ ws ≡ bare_faults (xs ++ ys)
two_bare xs ys vs ws e f = ap₂ (λ a b. a ++ b) e f ∙ sym (joined_bare xs ys)

none_bare : (xs : List Fault) → xs ≡ [] → bare_faults xs ≡ []
none_bare xs e = ap bare_faults e

some_bare : (xs : List Fault) → bare_faults xs ≡ [] → xs ≡ []
some_bare [] e = refl
some_bare (x ∷ xs) e = absurd cc

if_bare : (at : ℕ) (o : Option Reason) → fault_if 0 o ≡ bare_faults (fault_if at o)
if_bare at None = refl
if_bare at (Some r) = refl

unless_bare : (b c : Bool) (at : ℕ) (r q : Reason) → c ≡ b → q ≡ r → fault_unless c 0 q ≡ bare_faults (fault_unless b at r)
unless_bare true c at r q e f = ap (λ c. fault_unless c 0 q) e
unless_bare false c at r q e f = ap (λ c. fault_unless c 0 q) e ∙ ap (fault 0) f

-- ---- members

there_bare : (o : Option Node) → is_some (option_map bare_node o) ≡ is_some o
there_bare None = refl
there_bare (Some v) = refl

has_bare : (k : Key) (ms : Fields) → has k (bare_fields ms) ≡ has k ms
has_bare k ms = ap is_some (member_bare (spelled k) ms) ∙ there_bare (member k ms)

is_true_bare : (k : Key) (ms : Fields) → is_true (member k (bare_fields ms)) ≡ is_true (member k ms)
is_true_bare k ms = ap is_true (member_bare (spelled k) ms) ∙ true_bare (member k ms)

word_same : (s : List ℕ) (o : Option Node) → is_word s (option_map bare_node o) ≡ is_word s o
word_same s None = refl
word_same s (Some (text at t)) = refl
word_same s (Some (null at)) = refl
word_same s (Some (truth at b)) = refl
word_same s (Some (number at d)) = refl
word_same s (Some (array at vs)) = refl
word_same s (Some (object at ms close)) = refl

is_word_bare : (s : List ℕ) (k : Key) (ms : Fields) → is_word s (member k (bare_fields ms)) ≡ is_word s (member k ms)
is_word_bare s k ms = ap (is_word s) (member_bare (spelled k) ms) ∙ word_same s (member k ms)

missing_bare : (ms : Fields) (close : ℕ) (rows : List Row) → missing_faults (bare_fields ms) 0 rows ≡ bare_faults (missing_faults ms close rows)
unfolding row_faults
missing_bare ms close [] = refl
missing_bare ms close (r ∷ rows) =
    two_bare (row_faults ms close r) (missing_faults ms close rows) (row_faults (bare_fields ms) 0 r) (missing_faults (bare_fields ms) 0 rows)
    (unless_bare (not (is_required r.1) || has r.0 ms) (not (is_required r.1) || has r.0 (bare_fields ms)) close MissingMember MissingMember (ap (λ b. not (is_required r.1) || b) (has_bare r.0 ms)) refl)
    (missing_bare ms close rows)

bounds_bare : (ms : Fields) (close : ℕ) → bound_faults (bare_fields ms) 0 ≡ bare_faults (bound_faults ms close)
bounds_bare ms close = unless_bare (has K.LowerBound ms || has K.UpperBound ms) (has K.LowerBound (bare_fields ms) || has K.UpperBound (bare_fields ms)) close MissingMember MissingMember (ap₂ (λ a b. a || b) (has_bare K.LowerBound ms) (has_bare K.UpperBound ms)) refl

other_bare : (k : Kind) (ms : Fields) (at close : ℕ) → other_faults k (bare_fields ms) 0 0 ≡ bare_faults (other_faults k ms at close)
other_bare O.ConstantRange ms at close =
    two_bare (fault_unless (not (is_word (codes "bounded") (member K.Kind ms))) at LeftOut) (bound_faults ms close) _ _
    (unless_bare (not (is_word (codes "bounded") (member K.Kind ms))) (not (is_word (codes "bounded") (member K.Kind (bare_fields ms)))) at LeftOut LeftOut (ap not (is_word_bare (codes "bounded") K.Kind ms)) refl)
    (bounds_bare ms close)
other_bare O.Range ms at close = bounds_bare ms close
other_bare O.Variable ms at close =
    unless_bare (has K.InitialValue ms || not (is_true (member K.Transient ms))) (has K.InitialValue (bare_fields ms) || not (is_true (member K.Transient (bare_fields ms)))) close MissingMember MissingMember
    (ap₂ (λ a b. a || not b) (has_bare K.InitialValue ms) (is_true_bare K.Transient ms)) refl
other_bare O.AutomatonInitial ms at close = unless_bare (is_true (member K.Exp ms)) (is_true (member K.Exp (bare_fields ms))) at LeftOut LeftOut (is_true_bare K.Exp ms) refl
other_bare kind ms at close = refl

kind_bare : (form : Form) (ms : Fields) → object_kind form (bare_fields ms) ≡ object_kind form ms
kind_bare F.Expression ms = ap (λ o. Some (or_unclear o)) (ap op_in (member_bare (spelled K.Op) ms) ∙ op_bare (member K.Op ms))
kind_bare form ms = refl

-- ---- lists

first_bare : (vs : Nodes) → first_of (bare_nodes vs) ≡ option_map bare_node (first_of vs)
first_bare no_nodes = refl
first_bare (more_nodes v vs) = refl

no_item_bare : (at : ℕ) (r : Reason) (o : Option Node) → none_faults 0 r (option_map bare_node o) ≡ bare_faults (none_faults at r o)
no_item_bare at r None = refl
no_item_bare at r (Some v) = refl

list_bare : (form : Form) (at : ℕ) (vs : Nodes) → list_faults form 0 (bare_nodes vs) ≡ bare_faults (list_faults form at vs)
list_bare F.Destinations at vs = ap (none_faults 0 _) (first_bare vs) ∙ no_item_bare at _ (first_of vs)
list_bare F.InitialLocations at vs = ap (none_faults 0 _) (first_bare vs) ∙ no_item_bare at _ (first_of vs)
list_bare form at vs = refl

-- ---- values

by_form_bare : (o : Option Form) (at : ℕ) (r : Option Reason) (f g : Form → List Fault) → ((form : Form) → f form ≡ bare_faults (g form)) → by_form o (fault_if 0 r) f ≡ bare_faults (by_form o (fault_if at r) g)
by_form_bare None at r f g h = if_bare at r
by_form_bare (Some form) at r f g h = h form

by_kind_bare : (o p : Option Kind) (at : ℕ) (r : Option Reason) (f g : Kind → List Fault) → o ≡ p → ((kind : Kind) → f kind ≡ bare_faults (g kind)) → by_kind o (fault_if 0 r) f ≡ bare_faults (by_kind p (fault_if at r) g)
by_kind_bare o None at r f g e h = ap (λ o. by_kind o (fault_if 0 r) f) e ∙ if_bare at r
by_kind_bare o (Some kind) at r f g e h = ap (λ o. by_kind o (fault_if 0 r) f) e ∙ h kind

mutual
  faults_bare : (v : Node) (form : Form) → faults form (bare_node v) ≡ bare_faults (faults form v)
  faults_bare (null at) form = if_bare at (null_fault form)
  faults_bare (truth at b) form = if_bare at (truth_fault form)
  faults_bare (number at d) form = if_bare at (number_fault form d)
  faults_bare (text at s) form = if_bare at (word_fault form s)
  faults_bare (array at vs) form =
      by_form_bare (item_form form) at (kind_fault form) (λ g. items_faults g (bare_nodes vs) ++ list_faults form 0 (bare_nodes vs)) (λ g. items_faults g vs ++ list_faults form at vs)
      (λ g. two_bare (items_faults g vs) (list_faults form at vs) _ _ (items_bare vs g) (list_bare form at vs))
  faults_bare (object at ms close) form =
      by_kind_bare (object_kind form (bare_fields ms)) (object_kind form ms) at (kind_fault form) (λ k. members_faults k (bare_fields ms) ++ own_faults k (bare_fields ms) 0 0) (λ k. members_faults k ms ++ own_faults k ms at close)
      (kind_bare form ms)
      (λ k. two_bare (members_faults k ms) (own_faults k ms at close) _ _ (members_bare ms k) (two_bare (missing_faults ms close (rows_of k)) (other_faults k ms at close) _ _ (missing_bare ms close (rows_of k)) (other_bare k ms at close)))

  items_bare : (vs : Nodes) (form : Form) → items_faults form (bare_nodes vs) ≡ bare_faults (items_faults form vs)
  items_bare no_nodes form = refl
  items_bare (more_nodes v vs) form = two_bare (faults form v) (items_faults form vs) _ _ (faults_bare v form) (items_bare vs form)

  members_bare : (ms : Fields) (kind : Kind) → members_faults kind (bare_fields ms) ≡ bare_faults (members_faults kind ms)
  members_bare no_fields kind = refl
  members_bare (field n v rest) kind =
      two_bare (by_form (known_form kind n.name) (fault n.at UnknownMember) (λ g. faults g v)) (members_faults kind rest) _ _
      (by_form_bare (known_form kind n.name) n.at (Some UnknownMember) (λ g. faults g (bare_node v)) (λ g. faults g v) (λ g. faults_bare v g)) (members_bare rest kind)

-- values that are the same but for their places have no fault of a form, or both have one
pub clean_too : (v w : Node) (form : Form) → bare_node v ≡ bare_node w → faults form w ≡ [] → faults form v ≡ []
clean_too v w form e c = some_bare (faults form v) (sym (faults_bare v form) ∙ (ap (faults form) e ∙ (faults_bare w form ∙ none_bare (faults form w) c)))
