-- Objects and lists that are made member by member and item by item: without fault where each part is.
use Rattle.std.proofs.Common.{◌≡◌, ℕ, refl, sym, ap, subst, ◌∙◌, List, [], ◌∷◌, ◌++◌, Option, Some, None, Bool, true, false, ◌||◌, ◌&&◌, not, if◌then◌else◌, is_some}
use Rattle.std.specs.Prelude.{map, bytes_eq}
use Rattle.std.specs.Option.{option_map}
use Rattle.std.proofs.lemmas.Bool.{not-true}
use Rattle.std.proofs.Math.Bool.{or_assoc}
use Rattle.basics.specs.Texts.{bytes_eq-false_comm}
use Rattle.basics.specs.Options.{none_of, IfAny as OfSome}
use Rattle.basics.specs.Booleans.{first_true, second_true, or_none}
use Rattle.basics.specs.Lists.{append_both}
use Rattle.bridge_io.specs.declared.reason.Fault.{Fault}
use Rattle.bridge_io.specs.declared.reason.Reason.TheVariants.{MissingMember, UnknownMember}
use Rattle.jani_table.specs.declared.key.Key.{Key}
use Rattle.jani_table.specs.declared.table.Form.{Form}
use Rattle.jani_table.specs.declared.table.Kind.{Kind}
use Rattle.jani_table.specs.Node.{Node, Nodes, Fields, no_fields, field, nodes_of}
use Rattle.jani_table.specs.Table.{Row, spelled, rows_of, is_required, known_form, item_form}
use Rattle.jani_table.specs.Faults.{fault, fault_if, fault_unless, faults, items_faults, members_faults, missing_faults, row_faults, other_faults, own_faults, list_faults, by_form, by_kind, object_kind, member_text, has}
use Rattle.jani_table.specs.Words.{kind_fault}
use Rattle.std.specs.List.{AllByRecursion as OfAll}
use Rattle.jani_tree.specs.Canonical.{with_entry, with_maybe, with_members, object_of, list_node, some_list}
use Rattle.jani_tree.specs.Form.{NormalNode, NormalNodes, NormalFields, KeysOnce, KeysOnceInside, KeysApart}

-- What is asked of a list of faults is asked of its parts: that there is none, say.
pub record IsByParts (C : List Fault → Type 0) : Type 0 where
  pub none : C []
  pub both : (xs ys : List Fault) → C xs → C ys → C (xs ++ ys)
  pub left : (xs ys : List Fault) → C (xs ++ ys) → C xs
  pub right : (xs ys : List Fault) → C (xs ++ ys) → C ys

pub record Good (C : List Fault → Type 0) (form : Form) (v : Node) : Type 0 where
  pub clean : C (faults form v)
  pub normal : NormalNode v
  pub once : KeysOnce v

-- ---- truth values and lists

no_more : (a b : Bool) → a ≡ (a || (b && false))
no_more true b = refl
no_more false true = refl
no_more false false = refl

one_more : (a b : Bool) → (a || b) ≡ (a || (b && true))
one_more true b = refl
one_more false true = refl
one_more false false = refl

unless_true : (b : Bool) (at : ℕ) → b ≡ true → fault_unless b at MissingMember ≡ []
unless_true true at e = refl
unless_true false at e = absurd cc

-- ---- which members there are

-- one of these members has this key and a value
abbrev pub has_some : List ℕ → List (Key × Option Node) → Bool
has_some s [] = false
has_some s (m ∷ ms) = (bytes_eq s (spelled m.0) && is_some m.1) || has_some s ms

-- each required member is there
abbrev pub all_there : List (Key × Option Node) → List Row → Bool
all_there ms [] = true
all_there ms (r ∷ rows) = (not (is_required r.1) || has_some (spelled r.0) ms) && all_there ms rows

-- none of these members has this key
abbrev pub none_is : Key → List (Key × Option Node) → Bool
none_is k [] = true
none_is k (m ∷ ms) = not (bytes_eq (spelled m.0) (spelled k)) && none_is k ms

-- no two of them have one key
abbrev pub all_apart : List (Key × Option Node) → Bool
all_apart [] = true
all_apart (m ∷ ms) = none_is m.0 ms && all_apart ms

behind : (b c : Bool) (w : Node) (o p : Option Node) → is_some p ≡ (is_some o || c) → is_some (if b then Some w else p) ≡ (is_some (if b then Some w else o) || c)
behind true c w o p e = refl
behind false c w o p e = e

alone : (b : Bool) (v : Node) → is_some (if b then Some v else None) ≡ b
alone true v = refl
alone false v = refl

has_entry : (s : List ℕ) (fs : Fields) (k : Key) (v : Node) → is_some (member_text s (with_entry fs k v)) ≡ (is_some (member_text s fs) || bytes_eq s (spelled k))
has_entry s no_fields k v = alone (bytes_eq s (spelled k)) v
has_entry s (field n w rest) k v = behind (bytes_eq s n.name) (bytes_eq s (spelled k)) w (member_text s rest) (member_text s (with_entry rest k v)) (has_entry s rest k v)

has_maybe : (s : List ℕ) (fs : Fields) (k : Key) (o : Option Node) → is_some (member_text s (with_maybe fs k o)) ≡ (is_some (member_text s fs) || (bytes_eq s (spelled k) && is_some o))
has_maybe s fs k None = no_more (is_some (member_text s fs)) (bytes_eq s (spelled k))
has_maybe s fs k (Some v) = has_entry s fs k v ∙ one_more (is_some (member_text s fs)) (bytes_eq s (spelled k))

has_more : (s : List ℕ) (fs : Fields) (ms : List (Key × Option Node)) → is_some (member_text s (with_members fs ms)) ≡ (is_some (member_text s fs) || has_some s ms)
has_more s fs [] = or_none (is_some (member_text s fs))
has_more s fs (m ∷ ms) =
    has_more s (with_maybe fs m.0 m.1) ms
    ∙ (ap (λ b. b || has_some s ms) (has_maybe s fs m.0 m.1)
    ∙ or_assoc (is_some (member_text s fs)) (bytes_eq s (spelled m.0) && is_some m.1) (has_some s ms))

pub has_members : (k : Key) (ms : List (Key × Option Node)) → has k (with_members no_fields ms) ≡ has_some (spelled k) ms
has_members k ms = has_more (spelled k) no_fields ms

all_missing_none : (ms : List (Key × Option Node)) (close : ℕ) (rows : List Row) → all_there ms rows ≡ true → missing_faults (with_members no_fields ms) close rows ≡ []
unfolding row_faults
all_missing_none ms close [] e = refl
all_missing_none ms close (r ∷ rows) e =
    append_both (row_faults (with_members no_fields ms) close r) (missing_faults (with_members no_fields ms) close rows)
    (unless_true (not (is_required r.1) || has r.0 (with_members no_fields ms)) close
    (ap (λ b. not (is_required r.1) || b) (has_members r.0 ms) ∙ first_true (not (is_required r.1) || has_some (spelled r.0) ms) (all_there ms rows) e))
    (all_missing_none ms close rows (second_true (not (is_required r.1) || has_some (spelled r.0) ms) (all_there ms rows) e))

-- ---- members without fault
module _ (C : List Fault → Type 0) (by : IsByParts C) where
  abbrev pub KnownGood : Option Form → Node → Type 0
  KnownGood None v = ⊥
  KnownGood (Some g) v = Good C g v

  -- the value of a member, if it has one, is of the form that its key asks for
  abbrev pub MemberGood : Kind → Key × Option Node → Type 0
  MemberGood kind m = OfSome (KnownGood (known_form kind (spelled m.0))) m.1

  record Filled (kind : Kind) (fs : Fields) : Type 0 where
    clean : C (members_faults kind fs)
    normal : NormalFields fs
    apart : KeysApart fs

  -- the same of one member
  record Entry (kind : Kind) (k : Key) (v : Node) : Type 0 where
    clean : C (by_form (known_form kind (spelled k)) (fault 0 UnknownMember) (λ g. faults g v))
    normal : NormalNode v
    once : KeysOnce v

  entry_of : (o : Option Form) (v : Node) → KnownGood o v → C (by_form o (fault 0 UnknownMember) (λ g. faults g v)) × NormalNode v × KeysOnce v
  entry_of None v g = absurd g
  entry_of (Some f) v g = (g.clean, g.normal, g.once)

  entry : (kind : Kind) (k : Key) (v : Node) → KnownGood (known_form kind (spelled k)) v → Entry kind k v
  entry kind k v g = let e = entry_of (known_form kind (spelled k)) v g in record { clean = e.0; normal = e.1; once = e.2 }

  entry_clean : (kind : Kind) (fs : Fields) (k : Key) (v : Node) → C (members_faults kind fs) → Entry kind k v → C (members_faults kind (with_entry fs k v))
  entry_clean kind no_fields k v c e = by.both _ [] e.clean by.none
  entry_clean kind (field n w rest) k v c e =
      let here = by_form (known_form kind n.name) (fault n.at UnknownMember) (λ g. faults g w) in
      by.both here (members_faults kind (with_entry rest k v)) (by.left here (members_faults kind rest) c) (entry_clean kind rest k v (by.right here (members_faults kind rest) c) e)

  entry_normal : (fs : Fields) (k : Key) (v : Node) → NormalFields fs → NormalNode v → NormalFields (with_entry fs k v)
  entry_normal no_fields k v n m = (m, tt)
  entry_normal (field x w rest) k v n m = (n.0, entry_normal rest k v n.1 m)

  -- what a lookup that finds nothing says of the first member and the rest
  passed : (b : Bool) (w : Node) (o : Option Node) → is_some (if b then Some w else o) ≡ false → (b ≡ false) × (is_some o ≡ false)
  passed true w o e = absurd cc
  passed false w o e = (refl, e)

  apart_from : (n : List ℕ) (rest : Fields) (k : Key) (v : Node) → member_text n rest ≡ None → bytes_eq n (spelled k) ≡ false → member_text n (with_entry rest k v) ≡ None
  apart_from n rest k v e f = none_of (member_text n (with_entry rest k v)) (has_entry n rest k v ∙ (ap (λ o. is_some o || bytes_eq n (spelled k)) e ∙ f))

  entry_apart : (fs : Fields) (k : Key) (v : Node) → KeysApart fs → is_some (member_text (spelled k) fs) ≡ false → KeysOnce v → KeysApart (with_entry fs k v)
  entry_apart no_fields k v a f o = (refl, o, tt)
  entry_apart (field n w rest) k v a f o =
      let p = passed (bytes_eq (spelled k) n.name) w (member_text (spelled k) rest) f in
      (apart_from n.name rest k v a.0 (bytes_eq-false_comm (spelled k) n.name p.0), a.1, entry_apart rest k v a.2 p.1 o)

  abbrev Fresh : Fields → List (Key × Option Node) → Type 0
  Fresh fs ms = OfAll (λ m. is_some (member_text (spelled m.0) fs) ≡ false) ms

  fresh_next : (fs : Fields) (k : Key) (o : Option Node) (ms : List (Key × Option Node)) → Fresh fs ms → none_is k ms ≡ true → Fresh (with_maybe fs k o) ms
  fresh_next fs k o [] f e = tt
  fresh_next fs k o (m ∷ ms) f e =
      let other = not-true (bytes_eq (spelled m.0) (spelled k)) (first_true (not (bytes_eq (spelled m.0) (spelled k))) (none_is k ms) e) in (
        has_maybe (spelled m.0) fs k o ∙ (ap (λ b. b || (bytes_eq (spelled m.0) (spelled k) && is_some o)) f.0 ∙ ap (λ b. b && is_some o) other),
        fresh_next fs k o ms f.1 (second_true (not (bytes_eq (spelled m.0) (spelled k))) (none_is k ms) e),
      )

  maybe_filled : (kind : Kind) (fs : Fields) (k : Key) (o : Option Node) → Filled kind fs → MemberGood kind (k, o) → is_some (member_text (spelled k) fs) ≡ false → Filled kind (with_maybe fs k o)
  maybe_filled kind fs k None h g f = h
  maybe_filled kind fs k (Some v) h g f =
      let e = entry kind k v g in
      record { clean = entry_clean kind fs k v h.clean e; normal = entry_normal fs k v h.normal e.normal; apart = entry_apart fs k v h.apart f e.once }

  all_filled : (kind : Kind) (fs : Fields) (ms : List (Key × Option Node)) → Filled kind fs → OfAll (MemberGood kind) ms → Fresh fs ms → all_apart ms ≡ true → Filled kind (with_members fs ms)
  all_filled kind fs [] h g f e = h
  all_filled kind fs (m ∷ ms) h g f e =
      all_filled kind (with_maybe fs m.0 m.1) ms (maybe_filled kind fs m.0 m.1 h g.0 f.0) g.1
      (fresh_next fs m.0 m.1 ms f.1 (first_true (none_is m.0 ms) (all_apart ms) e)) (second_true (none_is m.0 ms) (all_apart ms) e)

  all_fresh : (ms : List (Key × Option Node)) → Fresh no_fields ms
  all_fresh [] = tt
  all_fresh (m ∷ ms) = (refl, all_fresh ms)

  -- ---- objects and lists

  -- an object of these members, where each value is of the form that its key asks for
  pub object_good : (form : Form) (kind : Kind) (at : ℕ) (ms : List (Key × Option Node)) → object_kind form (with_members no_fields ms) ≡ Some kind → OfAll (MemberGood kind) ms → all_there ms (rows_of kind) ≡ true → all_apart ms ≡ true →
      other_faults kind (with_members no_fields ms) at 0 ≡ [] → Good C form (object_of at ms)
  object_good form kind at ms k g t a o =
      let fs = with_members no_fields ms in
      let h = all_filled kind no_fields ms (record { clean = by.none; normal = tt; apart = tt }) g (all_fresh ms) a in
      let own : own_faults kind fs at 0 ≡ [] =
      append_both (missing_faults fs 0 (rows_of kind)) (other_faults kind fs at 0) (all_missing_none ms 0 (rows_of kind) t) o in
      record {
        clean =
            subst C (sym (ap (λ o. by_kind o (fault_if at (kind_fault form)) (λ k. members_faults k fs ++ own_faults k fs at 0)) k))
            (by.both (members_faults kind fs) (own_faults kind fs at 0) h.clean (subst C (sym own) by.none));
        normal = h.normal;
        once = h.apart;
      }

  record ItemsGood (form : Form) (vs : Nodes) : Type 0 where
    clean : C (items_faults form vs)
    normal : NormalNodes vs
    once : KeysOnceInside vs

  items_good : {A : Type 0} (form : Form) (f : A → Node) (P : A → Type 0) → ((x : A) → P x → Good C form (f x)) → (xs : List A) → OfAll P xs → ItemsGood form (nodes_of (map f xs))
  items_good form f P good [] h = record { clean = by.none; normal = tt; once = tt }
  items_good form f P good (x ∷ xs) h =
      let g = good x h.0 in
      let r = items_good form f P good xs h.1 in
      record { clean = by.both (faults form (f x)) (items_faults form (nodes_of (map f xs))) g.clean r.clean; normal = (g.normal, r.normal); once = (g.once, r.once) }

  pub list_good : {A : Type 0} (form item : Form) (f : A → Node) (P : A → Type 0) → item_form form ≡ Some item → ((x : A) → P x → Good C item (f x)) → (at : ℕ) (xs : List A) → OfAll P xs → list_faults form at (nodes_of (map f xs)) ≡ [] → Good C form (list_node f at xs)
  list_good form item f P i good at xs h l =
      let vs = nodes_of (map f xs) in
      let r = items_good item f P good xs h in
      record {
        clean =
            subst C (sym (ap (λ o. by_form o (fault_if at (kind_fault form)) (λ g. items_faults g vs ++ list_faults form at vs)) i))
            (by.both (items_faults item vs) (list_faults form at vs) r.clean (subst C (sym l) by.none));
        normal = r.normal;
        once = r.once;
      }

  -- a list that stands where it has items
  pub some_list_good : {A : Type 0} (form item : Form) (f : A → Node) (P : A → Type 0) → item_form form ≡ Some item → ((x : A) → P x → Good C item (f x)) → ((vs : Nodes) → list_faults form 0 vs ≡ []) → (xs : List A) → OfAll P xs → OfSome (Good C form) (some_list f xs)
  some_list_good form item f P i good l [] h = tt
  some_list_good form item f P i good l (x ∷ xs) h = list_good form item f P i good 0 (x ∷ xs) h (l _)

  -- a member that may be missing
  pub option_good : {A : Type 0} (form : Form) (f : A → Node) (P : A → Type 0) → ((x : A) → P x → Good C form (f x)) → (o : Option A) → OfSome P o → OfSome (Good C form) (option_map f o)
  option_good form f P good None h = tt
  option_good form f P good (Some x) h = good x h
