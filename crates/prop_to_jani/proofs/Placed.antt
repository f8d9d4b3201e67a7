-- The faults of the shape of properties do not depend on places: a value with every offset 0 has the same, each at 0.
use Rattle.std.proofs.Common.{◌≡◌, ℕ, refl, sym, ap, ap₂, subst, ◌∙◌, List, [], ◌∷◌, ◌++◌, map, Option, Some, None, Bool, true, false, ◌||◌, ◌&&◌, not, is_some, codes}
use Rattle.std.specs.List.{AllByRecursion as Each}
use Rattle.std.specs.Option.{option_map}
use Rattle.basics.specs.Each.{each_map, map_each}
use Rattle.basics.specs.Mapped.{joined}
use Rattle.basics.specs.Options.{is_some-map}
use Rattle.bridge_io.specs.declared.reason.Reason.{Reason}
use Rattle.bridge_io.specs.declared.reason.Reason.TheVariants.{MissingMember, UnknownMember, PropertyLeftOut}
use Rattle.bridge_io.specs.declared.reason.Fault.{Fault}
use Rattle.name_rules.proofs.Placeless.{placeless}
use Rattle.jani_table.specs.declared.key.Key.TheVariants as Key
use Rattle.jani_table.specs.Node.{Node, null, truth, number, text, array, object, Nodes, no_nodes, more_nodes, Fields, no_fields, field}
use Rattle.jani_table.specs.Table.{is_required, spelled}
use Rattle.jani_table.specs.Faults.{fault, fault_if, fault_unless, member, is_word}
use Rattle.jani_tree.specs.Places.{bare_node, bare_nodes, bare_fields}
use Rattle.jani_tree.proofs.Bare.{member_bare}
use Rattle.jani_props.specs.declared.words.Side.{Side}
use Rattle.jani_props.specs.declared.table.PropKey.{PropKey}
use Rattle.jani_props.specs.declared.table.PropKey.TheVariants as K
use Rattle.jani_props.specs.declared.table.PropForm.{PropForm}
use Rattle.jani_props.specs.declared.table.PropKind.{PropKind}
use Rattle.jani_props.specs.declared.table.PropKind.TheVariants as O
use Rattle.jani_props.specs.declared.shape.Reading.{Reading}
use Rattle.jani_props.specs.declared.shape.Reading.TheVariants.{As, Another, Told, Wrong}
use Rattle.jani_props.specs.Words.{fun_of, kind_fault, plain_fault, word_fault}
use Rattle.jani_props.specs.Table.{Row, spelled_key, rows_of, known_form, item_form}
use Rattle.jani_props.specs.Shape.{prop_member, has, op_word, op_word_in, op_word_at, reading, by_form, by_reading, row_faults, missing_faults, fun_goes_with, is_fitting, are_texts, is_steps, is_steps_and_exit, is_side, is_compared, takes_steps, is_given, is_summed, is_in, own_faults, faults, items_faults, members_faults}

-- ---- lists of faults

if-bare : (at : ℕ) (o : Option Reason) → fault_if 0 o ≡ map placeless (fault_if at o)
if-bare at None = refl
if-bare at (Some r) = refl

unless-bare : (b c : Bool) (at : ℕ) (r : Reason) → c ≡ b → fault_unless c 0 r ≡ map placeless (fault_unless b at r)
unless-bare true c at r e = ap (λ c. fault_unless c 0 r) e
unless-bare false c at r e = ap (λ c. fault_unless c 0 r) e

-- ---- members

has-bare : (k : PropKey) (ms : Fields) → has k (bare_fields ms) ≡ has k ms
has-bare k ms = ap is_some (member_bare (spelled_key k) ms) ∙ is_some-map bare_node (prop_member k ms)

missing-bare : (ms : Fields) (close : ℕ) (rows : List Row) → missing_faults (bare_fields ms) 0 rows ≡ map placeless (missing_faults ms close rows)
unfolding row_faults
missing-bare ms close [] = refl
missing-bare ms close (r ∷ rows) =
    joined placeless (row_faults (bare_fields ms) 0 r) (missing_faults (bare_fields ms) 0 rows) (row_faults ms close r) (missing_faults ms close rows)
    (unless-bare (not (is_required r.1) || has r.0 ms) (not (is_required r.1) || has r.0 (bare_fields ms)) close MissingMember (ap (λ b. not (is_required r.1) || b) (has-bare r.0 ms)))
    (missing-bare ms close rows)

op_word_in-bare : (o : Option Node) → op_word_in (option_map bare_node o) ≡ op_word_in o
op_word_in-bare None = refl
op_word_in-bare (Some (text at s)) = refl
op_word_in-bare (Some (null at)) = refl
op_word_in-bare (Some (truth at b)) = refl
op_word_in-bare (Some (number at d)) = refl
op_word_in-bare (Some (array at vs)) = refl
op_word_in-bare (Some (object at ms close)) = refl

op_word-bare : (ms : Fields) → op_word (bare_fields ms) ≡ op_word ms
op_word-bare ms = ap op_word_in (member_bare (spelled Key.Op) ms) ∙ op_word_in-bare (member Key.Op ms)

op_word_at-bare : (o : Option Node) → op_word_at (option_map bare_node o) ≡ op_word_at o
op_word_at-bare None = refl
op_word_at-bare (Some (object at ms close)) = op_word-bare ms
op_word_at-bare (Some (null at)) = refl
op_word_at-bare (Some (truth at b)) = refl
op_word_at-bare (Some (number at d)) = refl
op_word_at-bare (Some (text at s)) = refl
op_word_at-bare (Some (array at vs)) = refl

-- ---- what an object is besides its members

fitting-bare : (f v : Option Node) → is_fitting (option_map bare_node f) (option_map bare_node v) ≡ is_fitting f v
fitting-bare (Some (text at s)) v = ap (λ w. fun_goes_with w (fun_of s)) (op_word_at-bare v)
fitting-bare None v = refl
fitting-bare (Some (null at)) v = refl
fitting-bare (Some (truth at b)) v = refl
fitting-bare (Some (number at d)) v = refl
fitting-bare (Some (array at vs)) v = refl
fitting-bare (Some (object at ms close)) v = refl

word-bare : (s : List ℕ) (v : Node) → is_word s (Some (bare_node v)) ≡ is_word s (Some v)
word-bare s (text at t) = refl
word-bare s (null at) = refl
word-bare s (truth at b) = refl
word-bare s (number at d) = refl
word-bare s (array at vs) = refl
word-bare s (object at ms close) = refl

texts-bare : (vs : Nodes) → are_texts (bare_nodes vs) ≡ are_texts vs
texts-bare no_nodes = refl
texts-bare (more_nodes (text at s) vs) = texts-bare vs
texts-bare (more_nodes (null at) vs) = refl
texts-bare (more_nodes (truth at b) vs) = refl
texts-bare (more_nodes (number at d) vs) = refl
texts-bare (more_nodes (array at ws) vs) = refl
texts-bare (more_nodes (object at ms close) vs) = refl

steps-bare : (vs : Nodes) → is_steps (bare_nodes vs) ≡ is_steps vs
steps-bare no_nodes = refl
steps-bare (more_nodes v no_nodes) = word-bare (codes "steps") v
steps-bare (more_nodes v (more_nodes w vs)) = refl

steps_and_exit-bare : (vs : Nodes) → is_steps_and_exit (bare_nodes vs) ≡ is_steps_and_exit vs
steps_and_exit-bare no_nodes = refl
steps_and_exit-bare (more_nodes v no_nodes) = refl
steps_and_exit-bare (more_nodes v (more_nodes w no_nodes)) =
    ap₂ (λ a b. a || b)
    (ap₂ (λ a b. a && b) (word-bare (codes "steps") v) (word-bare (codes "exit") w))
    (ap₂ (λ a b. a && b) (word-bare (codes "exit") v) (word-bare (codes "steps") w))
steps_and_exit-bare (more_nodes v (more_nodes w (more_nodes u vs))) = refl

compared-bare : (side : Side) (o : Option Node) → is_compared side (option_map bare_node o) ≡ is_compared side o
compared-bare side (Some (object at ms close)) = ap (is_side side) (op_word-bare ms)
compared-bare side None = refl
compared-bare side (Some (null at)) = refl
compared-bare side (Some (truth at b)) = refl
compared-bare side (Some (number at d)) = refl
compared-bare side (Some (text at s)) = refl
compared-bare side (Some (array at vs)) = refl

unbounded-bare : (ms : Fields) → (not (has K.StepBounds (bare_fields ms)) || takes_steps (op_word (bare_fields ms))) ≡ (not (has K.StepBounds ms) || takes_steps (op_word ms))
unbounded-bare ms = ap₂ (λ a w. not a || takes_steps w) (has-bare K.StepBounds ms) (op_word-bare ms)

module _ (given : List ℕ → Bool) where
  given-bare : (o : Option Node) → is_given given (option_map bare_node o) ≡ is_given given o
  given-bare (Some (text at s)) = refl
  given-bare None = refl
  given-bare (Some (null at)) = refl
  given-bare (Some (truth at b)) = refl
  given-bare (Some (number at d)) = refl
  given-bare (Some (array at vs)) = refl
  given-bare (Some (object at ms close)) = refl

  summed-bare : (r o : Option Node) → is_summed given (option_map bare_node r) (option_map bare_node o) ≡ is_summed given r o
  summed-bare r (Some (array at vs)) =
      ap₂ (λ a b. not a || b) (texts-bare vs)
      (ap₂ (λ a b. a || b) (steps_and_exit-bare vs) (ap₂ (λ a b. a && not b) (steps-bare vs) (given-bare r)))
  summed-bare r None = refl
  summed-bare r (Some (null at)) = refl
  summed-bare r (Some (truth at b)) = refl
  summed-bare r (Some (number at d)) = refl
  summed-bare r (Some (text at s)) = refl
  summed-bare r (Some (object at ms close)) = refl

  in-bare : (kind : PropKind) (ms : Fields) → is_in given kind (bare_fields ms) ≡ is_in given kind ms
  in-bare O.Filter ms =
      ap₂ is_fitting (member_bare (spelled_key K.Fun) ms) (member_bare (spelled_key K.Values) ms) ∙ fitting-bare (prop_member K.Fun ms) (prop_member K.Values ms)
  in-bare O.Reward ms =
      ap₂ (is_summed given) (member_bare (spelled_key (K.Of Key.Exp)) ms) (member_bare (spelled_key K.Accumulate) ms)
      ∙ summed-bare (prop_member (K.Of Key.Exp) ms) (prop_member K.Accumulate ms)
  in-bare (O.Comparison side) ms = ap (is_compared side) (member_bare (spelled_key (K.Of Key.Left)) ms) ∙ compared-bare side (prop_member (K.Of Key.Left) ms)
  in-bare O.OnePath ms = unbounded-bare ms
  in-bare O.TwoPaths ms = unbounded-bare ms
  in-bare kind ms = refl

  own-bare : (kind : PropKind) (ms : Fields) (at close : ℕ) → own_faults given kind (bare_fields ms) 0 0 ≡ map placeless (own_faults given kind ms at close)
  own-bare kind ms at close =
      joined placeless (missing_faults (bare_fields ms) 0 (rows_of kind)) (fault_unless (is_in given kind (bare_fields ms)) 0 PropertyLeftOut)
      (missing_faults ms close (rows_of kind)) (fault_unless (is_in given kind ms) at PropertyLeftOut) (missing-bare ms close (rows_of kind))
      (unless-bare (is_in given kind ms) (is_in given kind (bare_fields ms)) at PropertyLeftOut (in-bare kind ms))

  -- ---- values

  by_form-bare : (o : Option PropForm) (at : ℕ) (r : Option Reason) (f g : PropForm → List Fault) → ((form : PropForm) → f form ≡ map placeless (g form)) →
      by_form o (fault_if 0 r) f ≡ map placeless (by_form o (fault_if at r) g)
  by_form-bare None at r f g h = if-bare at r
  by_form-bare (Some form) at r f g h = h form

  by_reading-bare : (form : PropForm) (r : Reading) (at : ℕ) (f g : PropKind → List Fault) → ((k : PropKind) → f k ≡ map placeless (g k)) →
      by_reading form r 0 f ≡ map placeless (by_reading form r at g)
  by_reading-bare form (As k) at f g h = h k
  by_reading-bare form Another at f g h = refl
  by_reading-bare form Told at f g h = refl
  by_reading-bare form Wrong at f g h = if-bare at (kind_fault form)

  mutual
    faults-bare : (v : Node) (form : PropForm) → faults given form (bare_node v) ≡ map placeless (faults given form v)
    faults-bare (null at) form = if-bare at (kind_fault form)
    faults-bare (truth at b) form = if-bare at (plain_fault form)
    faults-bare (number at d) form = if-bare at (plain_fault form)
    faults-bare (text at s) form = if-bare at (word_fault form s)
    faults-bare (array at vs) form =
        by_form-bare (item_form form) at (kind_fault form) (λ g. items_faults given g (bare_nodes vs)) (λ g. items_faults given g vs) (λ g. items-bare vs g)
    faults-bare (object at ms close) form =
        ap (λ w. by_reading form (reading form w) 0 (λ k. members_faults given k (bare_fields ms) ++ own_faults given k (bare_fields ms) 0 0)) (op_word-bare ms)
        ∙ by_reading-bare form (reading form (op_word ms)) at (λ k. members_faults given k (bare_fields ms) ++ own_faults given k (bare_fields ms) 0 0)
        (λ k. members_faults given k ms ++ own_faults given k ms at close)
        (λ k. joined placeless (members_faults given k (bare_fields ms)) (own_faults given k (bare_fields ms) 0 0) (members_faults given k ms) (own_faults given k ms at close)
        (members-bare ms k) (own-bare k ms at close))

    items-bare : (vs : Nodes) (form : PropForm) → items_faults given form (bare_nodes vs) ≡ map placeless (items_faults given form vs)
    items-bare no_nodes form = refl
    items-bare (more_nodes v vs) form =
        joined placeless (faults given form (bare_node v)) (items_faults given form (bare_nodes vs)) (faults given form v) (items_faults given form vs) (faults-bare v form) (items-bare vs form)

    members-bare : (ms : Fields) (kind : PropKind) → members_faults given kind (bare_fields ms) ≡ map placeless (members_faults given kind ms)
    members-bare no_fields kind = refl
    members-bare (field n v rest) kind =
        joined placeless (by_form (known_form kind n.name) (fault 0 UnknownMember) (λ g. faults given g (bare_node v))) (members_faults given kind (bare_fields rest))
        (by_form (known_form kind n.name) (fault n.at UnknownMember) (λ g. faults given g v)) (members_faults given kind rest)
        (by_form-bare (known_form kind n.name) n.at (Some UnknownMember) (λ g. faults given g (bare_node v)) (λ g. faults given g v) (λ g. faults-bare v g)) (members-bare rest kind)

  -- so the faults of values that are the same but for their places are of such reasons alike
  pub such_too : (Such : Reason → Type 0) (v w : Node) (form : PropForm) → bare_node v ≡ bare_node w → Each (λ f. Such f.reason) (faults given form w) → Each (λ f. Such f.reason) (faults given form v)
  such_too Such v w form e h =
      let same : map placeless (faults given form w) ≡ map placeless (faults given form v) = sym (faults-bare w form) ∙ ap (faults given form) (sym e) ∙ faults-bare v form in
      map_each (λ f. Such f.reason) placeless (faults given form v)
      (subst (Each (λ f. Such f.reason)) same (each_map (λ f. Such f.reason) (λ f. Such f.reason) placeless (λ f k. k) (faults given form w) h))
