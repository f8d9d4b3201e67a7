-- What a value without faults has: its members and items have none, what is required is there, and each kind of value
-- stands only where it may.
use Rattle.std.proofs.Common.{◌≡◌, ℕ, ◌+◌, ◌<◌, refl, sym, ap, subst, ◌∙◌, List, [], ◌∷◌, ◌++◌, Option, Some, None, true, false, Bool, ◌||◌, ◌&&◌, not, if◌then◌else◌, is_some, inl, inr, arith}
use Rattle.std.specs.Prelude.{bytes_eq}
use Rattle.std.specs.List.{list_any}
use Rattle.std.proofs.lemmas.Slice.Eq.{bytes_eq-Decides}
use Rattle.std.proofs.lemmas.Bool.{false≢true, or_cases, and_parts}
use Rattle.basics.specs.Options.{if_then_some}
use Rattle.basics.specs.Lists.{append_right, append_left}
use Rattle.bridge_io.specs.declared.reason.Reason.{Reason}
use Rattle.bridge_io.specs.declared.reason.Reason.TheVariants.{UnknownMember, MissingMember, LeftOut, WrongShape}
use Rattle.bridge_io.specs.declared.reason.Fault.{Fault}
use Rattle.frac_core.specs.declared.decimal.Decimal.{Decimal}
use Rattle.jani_table.specs.declared.table.Form.{Form}
use Rattle.jani_table.specs.declared.table.Form.TheVariants as F
use Rattle.jani_table.specs.declared.table.Kind.{Kind}
use Rattle.jani_table.specs.declared.table.Kind.TheVariants as O
use Rattle.jani_table.specs.declared.key.Key.{Key}
use Rattle.jani_table.specs.declared.key.Key.TheVariants as K
use Rattle.jani_table.specs.declared.operator.JaniOp.{JaniOp}
use Rattle.jani_table.specs.Node.{Node, null, truth, number, text, array, object, Fields, no_fields, field, size, size_fields}
use Rattle.jani_table.specs.Table.{Row, spelled, known_form, rows_of, is_required, item_form}
use Rattle.jani_table.specs.Words.{kind_fault, null_fault, truth_fault, number_fault, word_fault, refused_of}
use Rattle.jani_table.specs.Operators.{op_of}
use Rattle.jani_table.specs.Faults.{fault, fault_if, fault_unless, faults, items_faults, members_faults, own_faults, other_faults, missing_faults, row_faults, list_faults, object_faults, list_items_faults, member, member_text, has, items_in, part, is_needed, is_known, part_form, or_left_out, by_form, by_kind, object_kind, op_in, op_kind, or_unclear, is_text}
use Rattle.jani_table.specs.Parts.{is_plain, kind_of, is_list_form, item_of, is_text_form}

-- ---- members

-- the value of a known member has no fault
pub member_clean : (kind : Kind) (key : Key) (g : Form) (ms : Fields) (w : Node) → known_form kind (spelled key) ≡ Some g → members_faults kind ms ≡ [] → member key ms ≡ Some w → faults g w ≡ []
member_clean kind key g no_fields w k c m = absurd cc
member_clean kind key g (field n v rest) w k c m =
    elim (if_then_some (bytes_eq (spelled key) n.name) v (member key rest) w m) [
      | inl e ↦
          let same : spelled key ≡ n.name = (bytes_eq-Decides (spelled key) n.name).0 e.0 in
          let here : by_form (known_form kind n.name) (fault n.at UnknownMember) (λ g. faults g v) ≡ [] = append_left _ (members_faults kind rest) c in
          let known : known_form kind n.name ≡ Some g = ap (known_form kind) (sym same) ∙ k in
          ap (faults g) (sym e.1) ∙ (sym (ap (λ o. by_form o (fault n.at UnknownMember) (λ g. faults g v)) known) ∙ here)
      | inr e ↦ member_clean kind key g rest w k (append_right (by_form (known_form kind n.name) (fault n.at UnknownMember) (λ g. faults g v)) _ c) e.1
    ]

pub unless_clean : (b : Bool) (at : ℕ) (reason : Reason) → fault_unless b at reason ≡ [] → b ≡ true
unless_clean true at reason e = refl
unless_clean false at reason e = absurd cc

not_first : (a b : Bool) → a ≡ true → (not a || b) ≡ true → b ≡ true
not_first true b h e = e
not_first false b h e = absurd cc

abbrev is_row_for : Key → Row → Bool
is_row_for key r = is_required r.1 && bytes_eq (spelled r.0) (spelled key)

-- a required member is there
pub needed_there : (ms : Fields) (close : ℕ) (rows : List Row) (key : Key) → list_any (is_row_for key) rows ≡ true → missing_faults ms close rows ≡ [] → is_some (member key ms) ≡ true
unfolding row_faults
needed_there ms close [] key n c = absurd cc
needed_there ms close (r ∷ rows) key n c =
    elim (or_cases (is_row_for key r) (list_any (is_row_for key) rows) n) [
      | inl e ↦
          let both = and_parts (is_required r.1) (bytes_eq (spelled r.0) (spelled key)) e in
          let same : spelled r.0 ≡ spelled key = (bytes_eq-Decides (spelled r.0) (spelled key)).0 both.1 in
          let there : (not (is_required r.1) || has r.0 ms) ≡ true = unless_clean (not (is_required r.1) || has r.0 ms) close MissingMember (append_left _ (missing_faults ms close rows) c) in
          ap (λ s. is_some (member_text s ms)) (sym same) ∙ not_first (is_required r.1) (has r.0 ms) both.0 there
      | inr e ↦ needed_there ms close rows key e (append_right (row_faults ms close r) _ c)
    ]

the_form : (o : Option Form) → is_some o ≡ true → o ≡ Some (or_left_out o)
the_form None e = absurd cc
the_form (Some f) e = refl

pub part_clean : (kind : Kind) (key : Key) (v w : Node) → is_known kind key ≡ true → object_faults kind v ≡ [] → part key v ≡ Some w → faults (part_form kind key) w ≡ []
part_clean kind key (object at ms close) w k c m = member_clean kind key (part_form kind key) ms w (the_form (known_form kind (spelled key)) k) (append_left _ (own_faults kind ms at close) c) m
part_clean kind key (null at) w k c m = absurd cc
part_clean kind key (truth at b) w k c m = absurd cc
part_clean kind key (number at d) w k c m = absurd cc
part_clean kind key (text at s) w k c m = absurd cc
part_clean kind key (array at vs) w k c m = absurd cc

pub part_there : (kind : Kind) (key : Key) (v : Node) → is_needed kind key ≡ true → object_faults kind v ≡ [] → is_some (part key v) ≡ true
part_there kind key (object at ms close) n c = needed_there ms close (rows_of kind) key n (append_left _ (other_faults kind ms at close) (append_right (members_faults kind ms) _ c))
part_there kind key (null at) n c = absurd cc
part_there kind key (truth at b) n c = absurd cc
part_there kind key (number at d) n c = absurd cc
part_there kind key (text at s) n c = absurd cc
part_there kind key (array at vs) n c = absurd cc

-- a part is smaller than the whole
pub member_smaller : (k : List ℕ) (ms : Fields) (w : Node) → member_text k ms ≡ Some w → size w < size_fields ms
member_smaller k no_fields w m = absurd cc
member_smaller k (field n v rest) w m =
    elim (if_then_some (bytes_eq k n.name) v (member_text k rest) w m) [
      | inl e ↦ subst (λ x. size x < size v + size_fields rest + 1) e.1 (omega arith)
      | inr e ↦ let h = member_smaller k rest w e.1 in omega arith
    ]

pub part_smaller : (key : Key) (v w : Node) → part key v ≡ Some w → size w < size v
part_smaller key (object at ms close) w m = let h = member_smaller (spelled key) ms w m in omega arith
part_smaller key (null at) w m = absurd cc
part_smaller key (truth at b) w m = absurd cc
part_smaller key (number at d) w m = absurd cc
part_smaller key (text at s) w m = absurd cc
part_smaller key (array at vs) w m = absurd cc

-- ---- what stands where one kind of value alone may

pub fault_if_some : (at : ℕ) (o : Option Reason) → is_some o ≡ true → fault_if at o ≡ [] → ⊥
fault_if_some at None s e = cc
fault_if_some at (Some r) s e = cc

no_form : (o : Option Form) (at : ℕ) (r : Option Reason) (h : Form → List Fault) → o ≡ None → is_some r ≡ true → by_form o (fault_if at r) h ≡ [] → ⊥
no_form None at r h n s e = fault_if_some at r s e
no_form (Some f) at r h n s e = cc

no_kind : (o : Option Kind) (at : ℕ) (r : Option Reason) (h : Kind → List Fault) → o ≡ None → is_some r ≡ true → by_kind o (fault_if at r) h ≡ [] → ⊥
no_kind None at r h n s e = fault_if_some at r s e
no_kind (Some f) at r h n s e = cc

-- null, truth values and numbers may not stand for this form, and there is a reason against any other kind of value
pub record IsNarrow (form : Form) : Type 0 where
  pub null : is_some (null_fault form) ≡ true
  pub truth : is_some (truth_fault form) ≡ true
  pub number : (d : Decimal) → is_some (number_fault form d) ≡ true
  pub other : is_some (kind_fault form) ≡ true

text_only : (form : Form) (v : Node) → IsNarrow form → item_form form ≡ None → ((ms : Fields) → object_kind form ms ≡ None) → faults form v ≡ [] → is_text v ≡ true
text_only form (text at s) n i o c = refl
text_only form (null at) n i o c = absurd (fault_if_some at (null_fault form) n.null c)
text_only form (truth at b) n i o c = absurd (fault_if_some at (truth_fault form) n.truth c)
text_only form (number at d) n i o c = absurd (fault_if_some at (number_fault form d) (n.number d) c)
text_only form (array at vs) n i o c = absurd (no_form (item_form form) at (kind_fault form) (λ g. items_faults g vs ++ list_faults form at vs) i n.other c)
text_only form (object at ms close) n i o c = absurd (no_kind (object_kind form ms) at (kind_fault form) (λ k. members_faults k ms ++ own_faults k ms at close) (o ms) n.other c)

object_only : (form : Form) (kind : Kind) (v : Node) → IsNarrow form → item_form form ≡ None → ((s : List ℕ) → is_some (word_fault form s) ≡ true) → ((ms : Fields) → object_kind form ms ≡ Some kind) → faults form v ≡ [] → object_faults kind v ≡ []
object_only form kind (text at s) n i w o c = absurd (fault_if_some at (word_fault form s) (w s) c)
object_only form kind (null at) n i w o c = absurd (fault_if_some at (null_fault form) n.null c)
object_only form kind (truth at b) n i w o c = absurd (fault_if_some at (truth_fault form) n.truth c)
object_only form kind (number at d) n i w o c = absurd (fault_if_some at (number_fault form d) (n.number d) c)
object_only form kind (array at vs) n i w o c = absurd (no_form (item_form form) at (kind_fault form) (λ g. items_faults g vs ++ list_faults form at vs) i n.other c)
object_only form kind (object at ms close) n i w o c = sym (ap (λ o. by_kind o (fault_if at (kind_fault form)) (λ k. members_faults k ms ++ own_faults k ms at close)) (o ms)) ∙ c

list_only : (form item : Form) (v : Node) → IsNarrow form → item_form form ≡ Some item → ((s : List ℕ) → is_some (word_fault form s) ≡ true) → ((ms : Fields) → object_kind form ms ≡ None) → faults form v ≡ [] → list_items_faults item v ≡ []
list_only form item (text at s) n i w o c = absurd (fault_if_some at (word_fault form s) (w s) c)
list_only form item (null at) n i w o c = absurd (fault_if_some at (null_fault form) n.null c)
list_only form item (truth at b) n i w o c = absurd (fault_if_some at (truth_fault form) n.truth c)
list_only form item (number at d) n i w o c = absurd (fault_if_some at (number_fault form d) (n.number d) c)
list_only form item (array at vs) n i w o c = append_left (items_faults item vs) (list_faults form at vs) (sym (ap (λ o. by_form o (fault_if at (kind_fault form)) (λ g. items_faults g vs ++ list_faults form at vs)) i) ∙ c)
list_only form item (object at ms close) n i w o c = absurd (no_kind (object_kind form ms) at (kind_fault form) (λ k. members_faults k ms ++ own_faults k ms at close) (o ms) n.other c)

pub object_clean : (form : Form) (v : Node) → is_plain form ≡ true → faults form v ≡ [] → object_faults (kind_of form) v ≡ []
object_clean F.Model v p c = object_only F.Model O.Model v (record { null = refl; truth = refl; number = λ d. refl; other = refl }) refl (λ s. refl) (λ ms. refl) c
object_clean F.Action v p c = object_only F.Action O.Action v (record { null = refl; truth = refl; number = λ d. refl; other = refl }) refl (λ s. refl) (λ ms. refl) c
object_clean F.Constant v p c = object_only F.Constant O.Constant v (record { null = refl; truth = refl; number = λ d. refl; other = refl }) refl (λ s. refl) (λ ms. refl) c
object_clean F.Variable v p c = object_only F.Variable O.Variable v (record { null = refl; truth = refl; number = λ d. refl; other = refl }) refl (λ s. refl) (λ ms. refl) c
object_clean F.Automaton v p c = object_only F.Automaton O.Automaton v (record { null = refl; truth = refl; number = λ d. refl; other = refl }) refl (λ s. refl) (λ ms. refl) c
object_clean F.Location v p c = object_only F.Location O.Location v (record { null = refl; truth = refl; number = λ d. refl; other = refl }) refl (λ s. refl) (λ ms. refl) c
object_clean F.TransientValue v p c = object_only F.TransientValue O.TransientValue v (record { null = refl; truth = refl; number = λ d. refl; other = refl }) refl (λ s. refl) (λ ms. refl) c
object_clean F.Edge v p c = object_only F.Edge O.Edge v (record { null = refl; truth = refl; number = λ d. refl; other = refl }) refl (λ s. refl) (λ ms. refl) c
object_clean F.Destination v p c = object_only F.Destination O.Destination v (record { null = refl; truth = refl; number = λ d. refl; other = refl }) refl (λ s. refl) (λ ms. refl) c
object_clean F.Assignment v p c = object_only F.Assignment O.Assignment v (record { null = refl; truth = refl; number = λ d. refl; other = refl }) refl (λ s. refl) (λ ms. refl) c
object_clean F.System v p c = object_only F.System O.System v (record { null = refl; truth = refl; number = λ d. refl; other = refl }) refl (λ s. refl) (λ ms. refl) c
object_clean F.Element v p c = object_only F.Element O.Element v (record { null = refl; truth = refl; number = λ d. refl; other = refl }) refl (λ s. refl) (λ ms. refl) c
object_clean F.Vector v p c = object_only F.Vector O.Vector v (record { null = refl; truth = refl; number = λ d. refl; other = refl }) refl (λ s. refl) (λ ms. refl) c
object_clean F.Boxed v p c = object_only F.Boxed O.Boxed v (record { null = refl; truth = refl; number = λ d. refl; other = refl }) refl (λ s. refl) (λ ms. refl) c
object_clean F.AutomatonInitial v p c = object_only F.AutomatonInitial O.AutomatonInitial v (record { null = refl; truth = refl; number = λ d. refl; other = refl }) refl (λ s. refl) (λ ms. refl) c
object_clean f v p c = absurd (false≢true p)

pub list_clean : (form : Form) (v : Node) → is_list_form form ≡ true → faults form v ≡ [] → list_items_faults (item_of form) v ≡ []
list_clean F.Features v p c = list_only F.Features F.Feature v (record { null = refl; truth = refl; number = λ d. refl; other = refl }) refl (λ s. refl) (λ ms. refl) c
list_clean F.Actions v p c = list_only F.Actions F.Action v (record { null = refl; truth = refl; number = λ d. refl; other = refl }) refl (λ s. refl) (λ ms. refl) c
list_clean F.Constants v p c = list_only F.Constants F.Constant v (record { null = refl; truth = refl; number = λ d. refl; other = refl }) refl (λ s. refl) (λ ms. refl) c
list_clean F.Variables v p c = list_only F.Variables F.Variable v (record { null = refl; truth = refl; number = λ d. refl; other = refl }) refl (λ s. refl) (λ ms. refl) c
list_clean F.Automata v p c = list_only F.Automata F.Automaton v (record { null = refl; truth = refl; number = λ d. refl; other = refl }) refl (λ s. refl) (λ ms. refl) c
list_clean F.Locations v p c = list_only F.Locations F.Location v (record { null = refl; truth = refl; number = λ d. refl; other = refl }) refl (λ s. refl) (λ ms. refl) c
list_clean F.InitialLocations v p c = list_only F.InitialLocations F.Name v (record { null = refl; truth = refl; number = λ d. refl; other = refl }) refl (λ s. refl) (λ ms. refl) c
list_clean F.TransientValues v p c = list_only F.TransientValues F.TransientValue v (record { null = refl; truth = refl; number = λ d. refl; other = refl }) refl (λ s. refl) (λ ms. refl) c
list_clean F.Edges v p c = list_only F.Edges F.Edge v (record { null = refl; truth = refl; number = λ d. refl; other = refl }) refl (λ s. refl) (λ ms. refl) c
list_clean F.Destinations v p c = list_only F.Destinations F.Destination v (record { null = refl; truth = refl; number = λ d. refl; other = refl }) refl (λ s. refl) (λ ms. refl) c
list_clean F.Assignments v p c = list_only F.Assignments F.Assignment v (record { null = refl; truth = refl; number = λ d. refl; other = refl }) refl (λ s. refl) (λ ms. refl) c
list_clean F.Elements v p c = list_only F.Elements F.Element v (record { null = refl; truth = refl; number = λ d. refl; other = refl }) refl (λ s. refl) (λ ms. refl) c
list_clean F.Vectors v p c = list_only F.Vectors F.Vector v (record { null = refl; truth = refl; number = λ d. refl; other = refl }) refl (λ s. refl) (λ ms. refl) c
list_clean F.Synchronise v p c = list_only F.Synchronise F.NameOrNull v (record { null = refl; truth = refl; number = λ d. refl; other = refl }) refl (λ s. refl) (λ ms. refl) c
list_clean F.InputEnable v p c = list_only F.InputEnable F.Name v (record { null = refl; truth = refl; number = λ d. refl; other = refl }) refl (λ s. refl) (λ ms. refl) c
list_clean f v p c = absurd (false≢true p)

pub text_clean : (form : Form) (v : Node) → is_text_form form ≡ true → faults form v ≡ [] → is_text v ≡ true
text_clean F.Text v p c = text_only F.Text v (record { null = refl; truth = refl; number = λ d. refl; other = refl }) refl (λ ms. refl) c
text_clean F.Name v p c = text_only F.Name v (record { null = refl; truth = refl; number = λ d. refl; other = refl }) refl (λ ms. refl) c
text_clean F.ModelType v p c = text_only F.ModelType v (record { null = refl; truth = refl; number = λ d. refl; other = refl }) refl (λ ms. refl) c
text_clean F.Feature v p c = text_only F.Feature v (record { null = refl; truth = refl; number = λ d. refl; other = refl }) refl (λ ms. refl) c
text_clean F.BoundedWord v p c = text_only F.BoundedWord v (record { null = refl; truth = refl; number = λ d. refl; other = refl }) refl (λ ms. refl) c
text_clean F.BaseWord v p c = text_only F.BaseWord v (record { null = refl; truth = refl; number = λ d. refl; other = refl }) refl (λ ms. refl) c
text_clean F.Operator v p c = text_only F.Operator v (record { null = refl; truth = refl; number = λ d. refl; other = refl }) refl (λ ms. refl) c
text_clean f v p c = absurd (false≢true p)

pub plain_part_clean : (form : Form) (key : Key) (v w : Node) → is_plain form ≡ true → is_known (kind_of form) key ≡ true → faults form v ≡ [] → part key v ≡ Some w → faults (part_form (kind_of form) key) w ≡ []
plain_part_clean form key v w p k c m = part_clean (kind_of form) key v w k (object_clean form v p c) m

pub plain_part_there : (form : Form) (key : Key) (v : Node) → is_plain form ≡ true → is_needed (kind_of form) key ≡ true → faults form v ≡ [] → is_some (part key v) ≡ true
plain_part_there form key v p n c = part_there (kind_of form) key v n (object_clean form v p c)

-- ---- lists

pub items_in_clean : (item : Form) (v : Node) → list_items_faults item v ≡ [] → items_faults item (items_in v) ≡ []
items_in_clean item (array at vs) c = c
items_in_clean item (null at) c = absurd cc
items_in_clean item (truth at b) c = absurd cc
items_in_clean item (number at d) c = absurd cc
items_in_clean item (text at s) c = absurd cc
items_in_clean item (object at ms close) c = absurd cc

-- ---- operators

-- the object of an expression whose operator is known has its members
pub operation_clean : (at : ℕ) (ms : Fields) (close : ℕ) (o : JaniOp) → op_in (member K.Op ms) ≡ Some o → faults F.Expression (object at ms close) ≡ [] → object_faults (op_kind o) (object at ms close) ≡ []
operation_clean at ms close o e c = ap (λ p. object_faults (or_unclear p) (object at ms close)) (sym e) ∙ c

op_word : (w : Node) → op_in (Some w) ≡ None → faults F.Operator w ≡ [] → ⊥
op_word (text at s) n c = word (op_of s) n c
  where
    word : (o : Option JaniOp) → o ≡ None → fault_if at (if is_some o then None else Some (if is_some (refused_of s) then LeftOut else WrongShape)) ≡ [] → ⊥
    word None n c = cc
    word (Some o) n c = cc
op_word (null at) n c = cc
op_word (truth at b) n c = cc
op_word (number at d) n c = cc
op_word (array at vs) n c = cc
op_word (object at ms close) n c = cc

pub operation_there : (at : ℕ) (ms : Fields) (close : ℕ) → op_in (member K.Op ms) ≡ None → faults F.Expression (object at ms close) ≡ [] → ⊥
operation_there at ms close e c =
    let clean : object_faults O.Unclear (object at ms close) ≡ [] = ap (λ p. object_faults (or_unclear p) (object at ms close)) (sym e) ∙ c in
    there (member K.Op ms) refl (part_there O.Unclear K.Op (object at ms close) refl clean) clean
  where
    there : (o : Option Node) → member K.Op ms ≡ o → is_some (member K.Op ms) ≡ true → object_faults O.Unclear (object at ms close) ≡ [] → ⊥
    there None m s clean = cc (ap is_some m)
    there (Some w) m s clean = op_word w (ap op_in (sym m) ∙ e) (part_clean O.Unclear K.Op (object at ms close) w refl clean m)
