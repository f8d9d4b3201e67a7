-- What a value without faults has: its members and items have none, what is required is there, and each kind of value stands only where it
-- may.
use Rattle.std.proofs.Common.{◌≡◌, ℕ, ◌+◌, ◌<◌, refl, sym, ap, subst, ◌∙◌, List, [], ◌∷◌, ◌++◌, Option, Some, None, true, false, Bool, ◌||◌, ◌&&◌, not, if◌then◌else◌, is_some, inl, inr, arith, unwrap_or}
use Rattle.std.specs.Prelude.{bytes_eq, IsSomeAnd}
use Rattle.std.specs.List.{list_any}
use Rattle.std.proofs.lemmas.Slice.Eq.{bytes_eq-Decides}
use Rattle.std.proofs.lemmas.Bool.{or_cases, and_parts}
use Rattle.basics.specs.Options.{if_then_some}
use Rattle.basics.specs.Lists.{append_left, append_right}
use Rattle.bridge_io.specs.declared.reason.Reason.{Reason}
use Rattle.bridge_io.specs.declared.reason.Reason.TheVariants.{UnknownMember, MissingMember, PropertyLeftOut, LeftOut, WrongShape}
use Rattle.bridge_io.specs.declared.reason.Fault.{Fault}
use Rattle.jani_table.specs.declared.key.Key.TheVariants as Key
use Rattle.jani_table.specs.declared.table.Form.TheVariants as Table
use Rattle.jani_table.specs.declared.table.Kind.TheVariants as Kind
use Rattle.jani_table.specs.declared.operator.JaniOp.{JaniOp}
use Rattle.jani_table.specs.Node.{Node, null, truth, number, text, array, object, Fields, no_fields, field, at_of, size}
use Rattle.jani_table.specs.Table.{is_required}
use Rattle.jani_table.specs.Words as table
use Rattle.jani_table.specs.Operators.{op_of, op_text}
use Rattle.jani_tree.specs.Jani.{IsText}
use Rattle.jani_table.specs.Faults.{fault, fault_if, fault_unless, member, member_text}
use Rattle.jani_table.specs.Faults as table_faults
use Rattle.jani_table.specs.Laws.{unless_clean, member_smaller, fault_if_some}
use Rattle.prop_trees.specs.Names.{meant, initial_name, deadlock_name}
use Rattle.prop_trees.specs.JaniText.{HasOp, IsName}
use Rattle.jani_props.specs.declared.words.PropOp.{PropOp}
use Rattle.jani_props.specs.declared.words.PropOp.TheVariants as P
use Rattle.jani_props.specs.declared.words.OpWord.{OpWord}
use Rattle.jani_props.specs.declared.words.OpWord.TheVariants.{Property, Operator, Other}
use Rattle.jani_props.specs.declared.words.Side.{Side}
use Rattle.jani_props.specs.declared.words.Side.TheVariants.{Least, Greatest}
use Rattle.jani_props.specs.declared.table.PropKey.{PropKey}
use Rattle.jani_props.specs.declared.table.PropKey.TheVariants as K
use Rattle.jani_props.specs.declared.table.PropForm.{PropForm}
use Rattle.jani_props.specs.declared.table.PropForm.TheVariants as F
use Rattle.jani_props.specs.declared.table.PropKind.{PropKind}
use Rattle.jani_props.specs.declared.table.PropKind.TheVariants as O
use Rattle.jani_props.specs.declared.shape.Reading.TheVariants.{As}
use Rattle.jani_props.specs.Words.{prop_op_of, prop_text, kind_fault, plain_fault, word_fault, property_left_out, side_op, label_name}
use Rattle.jani_props.specs.Table.{Row, spelled_key, rows_of, known_form, item_form}
use Rattle.jani_props.specs.Shape.{part, prop_member, has, op_word, op_word_in, op_word_at, reading, or_another, by_form, by_reading, is_in, is_side, is_compared, takes_steps, row_faults, missing_faults, own_faults, faults, items_faults, members_faults}
use Rattle.jani_props.specs.Clean.{IsClean, IsCleanObject, part_form, is_known, is_needed}
use Rattle.jani_props.proofs.Spelling.{prop_spelled, op_spelled, property_word, operator_word, other_word}

-- ---- members

module _ (given : List ℕ → Bool) where
  -- the value of a known member has no fault
  member_clean : (kind : PropKind) (k : List ℕ) (g : PropForm) (ms : Fields) (w : Node) → known_form kind k ≡ Some g → members_faults given kind ms ≡ [] → member_text k ms ≡ Some w → faults given g w ≡ []
  member_clean kind k g no_fields w f c m = absurd cc
  member_clean kind k g (field n v rest) w f c m =
      elim (if_then_some (bytes_eq k n.name) v (member_text k rest) w m) [
        | inl e ↦
            let same : k ≡ n.name = (bytes_eq-Decides k n.name).0 e.0 in
            let here : by_form (known_form kind n.name) (fault n.at UnknownMember) (λ g. faults given g v) ≡ [] = append_left _ (members_faults given kind rest) c in
            let known : known_form kind n.name ≡ Some g = ap (known_form kind) (sym same) ∙ f in
            ap (faults given g) (sym e.1) ∙ (sym (ap (λ o. by_form o (fault n.at UnknownMember) (λ g. faults given g v)) known) ∙ here)
        | inr e ↦ member_clean kind k g rest w f (append_right (by_form (known_form kind n.name) (fault n.at UnknownMember) (λ g. faults given g v)) _ c) e.1
      ]

abbrev is_row_for : PropKey → Row → Bool
is_row_for key r = is_required r.1 && bytes_eq (spelled_key r.0) (spelled_key key)

-- a required member is there
needed_there : (ms : Fields) (close : ℕ) (rows : List Row) (key : PropKey) → list_any (is_row_for key) rows ≡ true → missing_faults ms close rows ≡ [] → is_some (prop_member key ms) ≡ true
unfolding row_faults
needed_there ms close [] key n c = absurd cc
needed_there ms close (r ∷ rows) key n c =
    elim (or_cases (is_row_for key r) (list_any (is_row_for key) rows) n) [
      | inl e ↦
          let both = and_parts (is_required r.1) (bytes_eq (spelled_key r.0) (spelled_key key)) e in
          let same : spelled_key r.0 ≡ spelled_key key = (bytes_eq-Decides (spelled_key r.0) (spelled_key key)).0 both.1 in
          let there : (not (is_required r.1) || has r.0 ms) ≡ true = unless_clean (not (is_required r.1) || has r.0 ms) close MissingMember (append_left _ (missing_faults ms close rows) c) in
          ap (λ s. is_some (member_text s ms)) (sym same) ∙ (sym (ap (λ b. not b || has r.0 ms) both.0) ∙ there)
      | inr e ↦ needed_there ms close rows key e (append_right (row_faults ms close r) _ c)
    ]

known_part : (kind : PropKind) (key : PropKey) → is_known kind key ≡ true → known_form kind (spelled_key key) ≡ Some (part_form kind key)
known_part kind key k = by_form_there (known_form kind (spelled_key key)) k
  where
    by_form_there : (o : Option PropForm) → is_some o ≡ true → o ≡ Some (unwrap_or o F.LeftOut)
    by_form_there None k = absurd cc
    by_form_there (Some g) k = refl

pub part_clean : (kind : PropKind) (key : PropKey) (v w : Node) → is_known kind key ≡ true → IsCleanObject kind v → part key v ≡ Some w → IsClean (part_form kind key) w
part_clean kind key (object at ms close) w k c m = record {
  given = c.given;
  clean = member_clean c.given kind (spelled_key key) (part_form kind key) ms w (known_part kind key k) (append_left _ (own_faults c.given kind ms at close) c.clean) m;
}
part_clean kind key (null at) w k c m = absurd cc
part_clean kind key (truth at b) w k c m = absurd cc
part_clean kind key (number at d) w k c m = absurd cc
part_clean kind key (text at s) w k c m = absurd cc
part_clean kind key (array at vs) w k c m = absurd cc

pub part_there : (kind : PropKind) (key : PropKey) (v : Node) → is_needed kind key ≡ true → IsCleanObject kind v → is_some (part key v) ≡ true
part_there kind key (object at ms close) n c =
    needed_there ms close (rows_of kind) key n (append_left (missing_faults ms close (rows_of kind)) _ (append_right (members_faults c.given kind ms) _ c.clean))
part_there kind key (null at) n c = absurd (cc c.clean)
part_there kind key (truth at b) n c = absurd (cc c.clean)
part_there kind key (number at d) n c = absurd (cc c.clean)
part_there kind key (text at s) n c = absurd (cc c.clean)
part_there kind key (array at vs) n c = absurd (cc c.clean)

-- an object is none of the forms that are left out
object_in : (kind : PropKind) (at : ℕ) (ms : Fields) (close : ℕ) (c : IsCleanObject kind (object at ms close)) → is_in c.given kind ms ≡ true
object_in kind at ms close c =
    unless_clean (is_in c.given kind ms) at PropertyLeftOut (append_right (missing_faults ms close (rows_of kind)) _ (append_right (members_faults c.given kind ms) _ c.clean))

pub part_smaller : (key : PropKey) (v w : Node) → part key v ≡ Some w → size w < size v
part_smaller key (object at ms close) w m = let h = member_smaller (spelled_key key) ms w m in omega arith
part_smaller key (null at) w m = absurd cc
part_smaller key (truth at b) w m = absurd cc
part_smaller key (number at d) w m = absurd cc
part_smaller key (text at s) w m = absurd cc
part_smaller key (array at vs) w m = absurd cc

-- ---- what stands where one kind of value alone may

fault_if_none : (at : ℕ) (o : Option Reason) → fault_if at o ≡ [] → o ≡ None
fault_if_none at None e = refl
fault_if_none at (Some r) e = absurd cc

-- an object alone may have this form
pub record IsNarrow (f : PropForm) : Type 0 where
  pub kind : is_some (kind_fault f) ≡ true
  pub plain : is_some (plain_fault f) ≡ true
  pub word : (s : List ℕ) → is_some (word_fault f s) ≡ true
  pub item : item_form f ≡ None

no_item : (o : Option PropForm) (at : ℕ) (r : Option Reason) (h : PropForm → List Fault) → o ≡ None → is_some r ≡ true → by_form o (fault_if at r) h ≡ [] → ⊥
no_item None at r h n s e = fault_if_some at r s e
no_item (Some f) at r h n s e = cc

-- an object is read by its table
pub object_as : (f : PropForm) (k : PropKind) (at : ℕ) (ms : Fields) (close : ℕ) → reading f (op_word ms) ≡ As k → IsClean f (object at ms close) → IsCleanObject k (object at ms close)
object_as f k at ms close e c = record {
  given = c.given;
  clean = sym (ap (λ r. by_reading f r at (λ k. members_faults c.given k ms ++ own_faults c.given k ms at close)) e) ∙ c.clean;
}

pub narrow_as : (f : PropForm) (k : PropKind) (v : Node) → IsNarrow f → IsClean f v → reading f (op_word_at (Some v)) ≡ As k → IsCleanObject k v
narrow_as f k (object at ms close) n c e = object_as f k at ms close e c
narrow_as f k (null at) n c e = absurd (fault_if_some at (kind_fault f) n.kind c.clean)
narrow_as f k (truth at b) n c e = absurd (fault_if_some at (plain_fault f) n.plain c.clean)
narrow_as f k (number at d) n c e = absurd (fault_if_some at (plain_fault f) n.plain c.clean)
narrow_as f k (text at s) n c e = absurd (fault_if_some at (word_fault f s) (n.word s) c.clean)
narrow_as f k (array at vs) n c e = absurd (no_item (item_form f) at (kind_fault f) (λ g. items_faults c.given g vs) n.item n.kind c.clean)

-- an object whose op has no meaning has a fault
no_operator : (w : Node) → op_word_in (Some w) ≡ Other → IsClean F.Operator w → ⊥
no_operator (text at s) o c = by_op (op_of s) (other_word (prop_op_of s) (op_of s) o) (fault_if_none at (word_fault F.Operator s) c.clean)
  where
    by_op : (o : Option JaniOp) → o ≡ None → property_left_out (if is_some o then None else Some (if is_some (table.refused_of s) then LeftOut else WrongShape)) ≡ None → ⊥
    by_op None n e = by_refused (is_some (table.refused_of s)) e
      where
        by_refused : (b : Bool) → property_left_out (Some (if b then LeftOut else WrongShape)) ≡ None → ⊥
        by_refused true e = cc
        by_refused false e = cc
    by_op (Some p) n e = cc
no_operator (null at) o c = cc c.clean
no_operator (truth at b) o c = cc c.clean
no_operator (number at d) o c = cc c.clean
no_operator (array at vs) o c = cc c.clean
no_operator (object at ms close) o c = cc c.clean

pub unclear_faulty : (v : Node) → op_word_at (Some v) ≡ Other → IsCleanObject (O.Operation Kind.Unclear) v → ⊥
unclear_faulty (object at ms close) o c = by_member (member Key.Op ms) refl (part_there (O.Operation Kind.Unclear) (K.Of Key.Op) (object at ms close) refl c)
  where
    by_member : (m : Option Node) → member Key.Op ms ≡ m → is_some (member Key.Op ms) ≡ true → ⊥
    by_member None e s = cc (ap is_some e)
    by_member (Some w) e s = no_operator w (sym (ap op_word_in e) ∙ o) (part_clean (O.Operation Kind.Unclear) (K.Of Key.Op) (object at ms close) w refl c e)
unclear_faulty (null at) o c = cc c.clean
unclear_faulty (truth at b) o c = cc c.clean
unclear_faulty (number at d) o c = cc c.clean
unclear_faulty (text at s) o c = cc c.clean
unclear_faulty (array at vs) o c = cc c.clean

-- where an object alone may stand, another form has a fault
object_another : (f : PropForm) (at : ℕ) (ms : Fields) (close : ℕ) → reading f (op_word ms) ≡ or_another (op_word ms) → IsClean f (object at ms close) → ⊥
object_another f at ms close e c = by_word (op_word ms) refl
  where
    by_word : (w : OpWord) → op_word ms ≡ w → ⊥
    by_word Other h = unclear_faulty (object at ms close) h (object_as f (O.Operation Kind.Unclear) at ms close (e ∙ ap or_another h) c)
    by_word (Property p) h = cc (sym (ap (λ r. by_reading f r at (λ k. members_faults c.given k ms ++ own_faults c.given k ms at close)) (e ∙ ap or_another h)) ∙ c.clean)
    by_word (Operator o) h = cc (sym (ap (λ r. by_reading f r at (λ k. members_faults c.given k ms ++ own_faults c.given k ms at close)) (e ∙ ap or_another h)) ∙ c.clean)

pub narrow_another : (f : PropForm) (v : Node) → IsNarrow f → IsClean f v → reading f (op_word_at (Some v)) ≡ or_another (op_word_at (Some v)) → ⊥
narrow_another f (object at ms close) n c e = object_another f at ms close e c
narrow_another f (null at) n c e = fault_if_some at (kind_fault f) n.kind c.clean
narrow_another f (truth at b) n c e = fault_if_some at (plain_fault f) n.plain c.clean
narrow_another f (number at d) n c e = fault_if_some at (plain_fault f) n.plain c.clean
narrow_another f (text at s) n c e = fault_if_some at (word_fault f s) (n.word s) c.clean
narrow_another f (array at vs) n c e = no_item (item_form f) at (kind_fault f) (λ g. items_faults c.given g vs) n.item n.kind c.clean

-- ---- the forms, one by one

narrow : (f : PropForm) → is_some (kind_fault f) ≡ true → is_some (plain_fault f) ≡ true → ((s : List ℕ) → is_some (word_fault f s) ≡ true) → item_form f ≡ None → IsNarrow f
narrow f a b c d = record { kind = a; plain = b; word = c; item = d }

filter_narrow : IsNarrow F.Filter
filter_narrow = narrow F.Filter refl refl (λ s. refl) refl

values_narrow : IsNarrow F.Values
values_narrow = narrow F.Values refl refl (λ s. refl) refl

path_narrow : IsNarrow F.Path
path_narrow = narrow F.Path refl refl (λ s. refl) refl

pub filter_as : (v : Node) → IsClean F.Filter v → IsCleanObject O.Filter v
filter_as v c = by_word (op_word_at (Some v)) refl
  where
    other : (w : OpWord) → op_word_at (Some v) ≡ w → reading F.Filter w ≡ or_another w → IsCleanObject O.Filter v
    other w h e = absurd (narrow_another F.Filter v filter_narrow c (ap (reading F.Filter) h ∙ (e ∙ ap or_another (sym h))))

    by_word : (w : OpWord) → op_word_at (Some v) ≡ w → IsCleanObject O.Filter v
    by_word (Property P.Filter) h = narrow_as F.Filter O.Filter v filter_narrow c (ap (reading F.Filter) h)
    by_word (Property p) h = other (Property p) h refl
    by_word (Operator o) h = other (Operator o) h refl
    by_word Other h = other Other h refl

pub path_operator : (v : Node) (o : JaniOp) → op_word_at (Some v) ≡ Operator o → IsClean F.Path v → ⊥
path_operator v o h c = narrow_another F.Path v path_narrow c (ap (reading F.Path) h ∙ sym (ap or_another h))

pub path_other : (v : Node) → op_word_at (Some v) ≡ Other → IsClean F.Path v → ⊥
path_other v h c = narrow_another F.Path v path_narrow c (ap (reading F.Path) h ∙ sym (ap or_another h))

pub values_other : (v : Node) → op_word_at (Some v) ≡ Other → IsClean F.Values v → ⊥
values_other v h c = narrow_another F.Values v values_narrow c (ap (reading F.Values) h ∙ sym (ap or_another h))

-- ---- names and expressions

pub name_clean : (v : Node) → IsClean F.Name v → table_faults.faults Table.Name v ≡ []
name_clean (text at s) c = c.clean
name_clean (null at) c = absurd (cc c.clean)
name_clean (truth at b) c = absurd (cc c.clean)
name_clean (number at d) c = absurd (cc c.clean)
name_clean (array at vs) c = absurd (cc c.clean)
name_clean (object at ms close) c = absurd (cc c.clean)

-- ---- the side that is compared

compared : (side : Side) (v : Node) → is_compared side (Some v) ≡ true → IsClean (F.Compared side) v → (op_word_at (Some v) ≡ Property (side_op side)) × IsCleanObject O.Probability v
compared Least (object at ms close) e c = by_word (op_word ms) refl e
  where
    by_word : (w : OpWord) → op_word ms ≡ w → is_side Least w ≡ true → (op_word ms ≡ Property P.PMin) × IsCleanObject O.Probability (object at ms close)
    by_word (Property P.PMin) h e = (h, object_as (F.Compared Least) O.Probability at ms close (ap (reading (F.Compared Least)) h) c)
    by_word (Property p) h e = absurd cc
    by_word (Operator o) h e = absurd cc
    by_word Other h e = absurd (unclear_faulty (object at ms close) h (object_as (F.Compared Least) (O.Operation Kind.Unclear) at ms close (ap (reading (F.Compared Least)) h) c))
compared Greatest (object at ms close) e c = by_word (op_word ms) refl e
  where
    by_word : (w : OpWord) → op_word ms ≡ w → is_side Greatest w ≡ true → (op_word ms ≡ Property P.PMax) × IsCleanObject O.Probability (object at ms close)
    by_word (Property P.PMax) h e = (h, object_as (F.Compared Greatest) O.Probability at ms close (ap (reading (F.Compared Greatest)) h) c)
    by_word (Property p) h e = absurd cc
    by_word (Operator o) h e = absurd cc
    by_word Other h e = absurd (unclear_faulty (object at ms close) h (object_as (F.Compared Greatest) (O.Operation Kind.Unclear) at ms close (ap (reading (F.Compared Greatest)) h) c))
compared side (null at) e c = absurd (cc c.clean)
compared side (truth at b) e c = absurd cc
compared side (number at d) e c = absurd cc
compared side (text at s) e c = absurd cc
compared side (array at vs) e c = absurd (cc c.clean)

left_known : (side : Side) → (is_known (O.Comparison side) (K.Of Key.Left) ≡ true) × (part_form (O.Comparison side) (K.Of Key.Left) ≡ F.Compared side)
left_known Least = (refl, refl)
left_known Greatest = (refl, refl)

left_of : (side : Side) (v w : Node) → IsCleanObject (O.Comparison side) v → part (K.Of Key.Left) v ≡ Some w → (op_word_at (Some w) ≡ Property (side_op side)) × IsCleanObject O.Probability w
left_of side (object at ms close) w c m =
    let known = left_known side in
    compared side w (sym (ap (is_compared side) m) ∙ object_in (O.Comparison side) at ms close c)
    (subst (λ f. IsClean f w) known.1 (part_clean (O.Comparison side) (K.Of Key.Left) (object at ms close) w known.0 c m))
left_of side (null at) w c m = absurd cc
left_of side (truth at b) w c m = absurd cc
left_of side (number at d) w c m = absurd cc
left_of side (text at s) w c m = absurd cc
left_of side (array at vs) w c m = absurd cc

pub left_op : (side : Side) (v w : Node) → IsCleanObject (O.Comparison side) v → part (K.Of Key.Left) v ≡ Some w → op_word_at (Some w) ≡ Property (side_op side)
left_op side v w c m = (left_of side v w c m).0

pub left_clean : (side : Side) (v w : Node) → IsCleanObject (O.Comparison side) v → part (K.Of Key.Left) v ≡ Some w → IsCleanObject O.Probability w
left_clean side v w c m = (left_of side v w c m).1

-- ---- bounds of steps

none_there : (o : Option Node) (b : Bool) → (not (is_some o) || b) ≡ true → b ≡ false → o ≡ None
none_there None b e f = refl
none_there (Some w) true e f = absurd cc
none_there (Some w) false e f = absurd cc

-- paths that take no bound of steps have none
pub one_unbounded : (v : Node) → IsCleanObject O.OnePath v → takes_steps (op_word_at (Some v)) ≡ false → part K.StepBounds v ≡ None
one_unbounded (object at ms close) c t = none_there (prop_member K.StepBounds ms) (takes_steps (op_word ms)) (object_in O.OnePath at ms close c) t
one_unbounded (null at) c t = refl
one_unbounded (truth at b) c t = refl
one_unbounded (number at d) c t = refl
one_unbounded (text at s) c t = refl
one_unbounded (array at vs) c t = refl

pub two_unbounded : (v : Node) → IsCleanObject O.TwoPaths v → takes_steps (op_word_at (Some v)) ≡ false → part K.StepBounds v ≡ None
two_unbounded (object at ms close) c t = none_there (prop_member K.StepBounds ms) (takes_steps (op_word ms)) (object_in O.TwoPaths at ms close c) t
two_unbounded (null at) c t = refl
two_unbounded (truth at b) c t = refl
two_unbounded (number at d) c t = refl
two_unbounded (text at s) c t = refl
two_unbounded (array at vs) c t = refl

-- ---- the op of an object

pub has_op : (v : Node) (p : PropOp) → op_word_at (Some v) ≡ Property p → HasOp (prop_text p) v
has_op (object at ms close) p e = by_member (member Key.Op ms) refl e
  where
    by_member : (m : Option Node) → member Key.Op ms ≡ m → op_word_in m ≡ Property p → HasOp (prop_text p) (object at ms close)
    by_member (Some (text b s)) m f = subst (λ o. IsSomeAnd o (λ w. IsText w (prop_text p))) (sym m) (sym (prop_spelled s p (property_word (prop_op_of s) (op_of s) p f)))
    by_member None m f = absurd cc
    by_member (Some (null b)) m f = absurd cc
    by_member (Some (truth b t)) m f = absurd cc
    by_member (Some (number b d)) m f = absurd cc
    by_member (Some (array b vs)) m f = absurd cc
    by_member (Some (object b ns c)) m f = absurd cc
has_op (null at) p e = absurd cc
has_op (truth at b) p e = absurd cc
has_op (number at d) p e = absurd cc
has_op (text at s) p e = absurd cc
has_op (array at vs) p e = absurd cc

operator_in : (m : Option Node) (o : JaniOp) → op_word_in m ≡ Operator o → (b : ℕ) × (s : List ℕ) × (m ≡ Some (text b s)) × (op_of s ≡ Some o)
operator_in (Some (text b s)) o f = (b, s, refl, operator_word (prop_op_of s) (op_of s) o f)
operator_in None o f = absurd cc
operator_in (Some (null b)) o f = absurd cc
operator_in (Some (truth b t)) o f = absurd cc
operator_in (Some (number b d)) o f = absurd cc
operator_in (Some (array b vs)) o f = absurd cc
operator_in (Some (object b ns c)) o f = absurd cc

pub has_operator : (v : Node) (o : JaniOp) → op_word_at (Some v) ≡ Operator o → HasOp (op_text o) v
has_operator (object at ms close) o e =
    let i = operator_in (member Key.Op ms) o e in
    subst (λ m. IsSomeAnd m (λ w. IsText w (op_text o))) (sym i.2) (sym (op_spelled i.1 o i.3))
has_operator (null at) o e = absurd cc
has_operator (truth at b) o e = absurd cc
has_operator (number at d) o e = absurd cc
has_operator (text at s) o e = absurd cc
has_operator (array at vs) o e = absurd cc

-- ---- labels that every model has

pub label_there : (at : ℕ) (ms : Fields) (close : ℕ) (p : PropOp) → op_word ms ≡ Property p → label_name p ≡ None → IsClean F.Expression (object at ms close) → ⊥
label_there at ms close P.Initial h n c = cc
label_there at ms close P.Deadlock h n c = cc
label_there at ms close p h n c = object_another F.Expression at ms close (ap (reading F.Expression) h ∙ sym (ap or_another h)) c

pub other_there : (at : ℕ) (ms : Fields) (close : ℕ) → op_word ms ≡ Other → IsClean F.Expression (object at ms close) → ⊥
other_there at ms close h c = object_another F.Expression at ms close (ap (reading F.Expression) h ∙ sym (ap or_another h)) c

pub label_is : (v : Node) (at : ℕ) (p : PropOp) (x : List ℕ) → op_word_at (Some v) ≡ Property p → label_name p ≡ Some x → at_of v ≡ at → IsName v at x (meant x)
label_is v at P.Initial x h n e = let same : initial_name ≡ x = cc n in subst (λ y. IsName v at y (meant y)) same (has_op v P.Initial h, e)
label_is v at P.Deadlock x h n e = let same : deadlock_name ≡ x = cc n in subst (λ y. IsName v at y (meant y)) same (has_op v P.Deadlock h, e)
label_is v at p x h n e = absurd cc
