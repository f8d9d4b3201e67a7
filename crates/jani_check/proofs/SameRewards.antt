-- Destinations that assign the same rewards: it is enough to compare each with the first.
use Rattle.std.specs.Prelude.{List, [], ◌∷◌, Bool, true, false, not, ◌&&◌, ◌||◌, Option, Some, None, IsTrue, ◌↔◌, bytes_eq, nat_eq, if◌then◌else◌}
use Rattle.std.specs.List.{find, list_any}
use Rattle.std.specs.Ordering.{int_eq}
use Rattle.std.specs.Option.{option_map}
use Rattle.std.proofs.Common.{◌≡◌, refl, sym, ap, ap₂, ◌∙◌, arith}
use Rattle.std.proofs.lemmas.Bool.Decides.{Decides-int_eq, nat_tests}
use Rattle.std.proofs.lemmas.Slice.Eq.{bytes_eq-Decides}
use Rattle.std.proofs.lemmas.Bool.{and_parts, and_from, or_from}
use Rattle.std.proofs.lemmas.Option.{same_Some}
use Rattle.basics.specs.Booleans.{first_false, second_false}
use Rattle.frac_core.specs.declared.decimal.Decimal.{Decimal}
use Rattle.op_trees.specs.Tree.{Truth, Number, Name as At, One, Two, Three, bare}
use Rattle.op_trees.specs.Standard.{same_truth}
use Rattle.jani_table.specs.declared.operator.JaniOp.{JaniOp}
use Rattle.jani_table.specs.Operators.{op_of, op_text}
use Rattle.jani_tree.specs.Syntax.{Expression, Write, Destination}
use Rattle.jani_tree.proofs.Again.{op_again}
use Rattle.jani_check.specs.Things.{is_reward}
use Rattle.op_trees.specs.Names.{is_called}
use Rattle.name_rules.specs.Names.{Name}
use Rattle.jani_check.specs.declared.things.Thing.{Thing}
use Rattle.basics.specs.Options.{if_some}
use Rattle.jani_check.specs.ProfileFaults.{same_number, same_tree, value_for, rewards_by, lacks, differ, some_differ}

-- ---- equal trees
pub same_op : (o p : JaniOp) → bytes_eq (op_text o) (op_text p) ≡ true → o ≡ p
same_op o p h = same_Some o p (sym (op_again o) ∙ ap op_of ((bytes_eq-Decides (op_text o) (op_text p)).0 h) ∙ op_again p)

op_itself : (o : JaniOp) → bytes_eq (op_text o) (op_text o) ≡ true
op_itself o = (bytes_eq-Decides (op_text o) (op_text o)).1 refl

pub truth_same : (a b : Bool) → same_truth a b ≡ true → a ≡ b
truth_same true true h = refl
truth_same false false h = refl
truth_same true false h = absurd cc
truth_same false true h = absurd cc

truth_itself : (a : Bool) → same_truth a a ≡ true
truth_itself true = refl
truth_itself false = refl

pub number_same : (d e : Decimal) → same_number d e ≡ true → d ≡ e
number_same d e h =
    let r = and_parts (same_truth d.real e.real) _ h in
    let n = and_parts (same_truth d.negative e.negative) _ r.1 in
    let k = and_parts (nat_eq d.digits e.digits) (int_eq d.exponent e.exponent) n.1 in
    let real = truth_same d.real e.real r.0 in
    let negative = truth_same d.negative e.negative n.0 in
    let digits : d.digits ≡ e.digits = grind (arith, nat_tests, k.0) in
    let exponent = (Decides-int_eq d.exponent e.exponent).0 k.1 in
    ap₂ (λ (x y : Bool). record { real = x; negative = y; digits = d.digits; exponent = d.exponent }) real negative
    ∙ ap₂ (λ x y. record { real = e.real; negative = e.negative; digits = x; exponent = y }) digits exponent

number_itself : (d : Decimal) → same_number d d ≡ true
number_itself d =
    let digits : nat_eq d.digits d.digits ≡ true = grind (arith, nat_tests) in
    and_from _ _ (truth_itself d.real) (and_from _ _ (truth_itself d.negative) (and_from _ _ digits ((Decides-int_eq d.exponent d.exponent).1 refl)))

pub same_forth : (a b : Expression) → same_tree a b ≡ true → bare a ≡ bare b
same_forth (Truth at b) (Truth from c) h = ap (Truth 0) (truth_same b c h)
same_forth (Number at d) (Number from e) h = ap (Number 0) (number_same d e h)
same_forth (At at x) (At from y) h = ap (At 0) ((bytes_eq-Decides x y).0 h)
same_forth (One at o a) (One from p d) h =
    let t = and_parts _ (same_tree a d) h in ap₂ (One 0) (same_op o p t.0) (same_forth a d t.1)
same_forth (Two at o a b) (Two from p d e) h =
    let t = and_parts _ (same_tree a d && same_tree b e) h in
    let s = and_parts (same_tree a d) (same_tree b e) t.1 in
    ap (λ q. Two 0 q (bare a) (bare b)) (same_op o p t.0) ∙ ap₂ (Two 0 p) (same_forth a d s.0) (same_forth b e s.1)
same_forth (Three at o a b c) (Three from p d e f) h =
    let t = and_parts _ (same_tree a d && (same_tree b e && same_tree c f)) h in
    let s = and_parts (same_tree a d) (same_tree b e && same_tree c f) t.1 in
    let r = and_parts (same_tree b e) (same_tree c f) s.1 in
    ap (λ q. Three 0 q (bare a) (bare b) (bare c)) (same_op o p t.0)
    ∙ ap (λ x. Three 0 p x (bare b) (bare c)) (same_forth a d s.0)
    ∙ ap₂ (Three 0 p (bare d)) (same_forth b e r.0) (same_forth c f r.1)
same_forth a b h = absurd cc

-- two trees are the same as one that has no offsets
same_bare : (a : Expression) → same_tree a a ≡ true
same_bare (Truth at b) = truth_itself b
same_bare (Number at d) = number_itself d
same_bare (At at x) = (bytes_eq-Decides x x).1 refl
same_bare (One at o a) = and_from _ _ (op_itself o) (same_bare a)
same_bare (Two at o a b) = and_from _ _ (op_itself o) (and_from _ _ (same_bare a) (same_bare b))
same_bare (Three at o a b c) = and_from _ _ (op_itself o) (and_from _ _ (same_bare a) (and_from _ _ (same_bare b) (same_bare c)))

left_bare : (a b : Expression) → same_tree (bare a) b ≡ same_tree a b
left_bare (Truth at b) (Truth from c) = refl
left_bare (Number at d) (Number from e) = refl
left_bare (At at x) (At from y) = refl
left_bare (One at o a) (One from p d) = ap (λ t. bytes_eq (op_text o) (op_text p) && t) (left_bare a d)
left_bare (Two at o a b) (Two from p d e) = ap₂ (λ t s. bytes_eq (op_text o) (op_text p) && (t && s)) (left_bare a d) (left_bare b e)
left_bare (Three at o a b c) (Three from p d e f) =
    ap (λ t. bytes_eq (op_text o) (op_text p) && (t && (same_tree (bare b) e && same_tree (bare c) f))) (left_bare a d)
    ∙ ap₂ (λ t s. bytes_eq (op_text o) (op_text p) && (same_tree a d && (t && s))) (left_bare b e) (left_bare c f)
left_bare a b = refl

right_bare : (a b : Expression) → same_tree a (bare b) ≡ same_tree a b
right_bare (Truth at b) (Truth from c) = refl
right_bare (Number at d) (Number from e) = refl
right_bare (At at x) (At from y) = refl
right_bare (One at o a) (One from p d) = ap (λ t. bytes_eq (op_text o) (op_text p) && t) (right_bare a d)
right_bare (Two at o a b) (Two from p d e) = ap₂ (λ t s. bytes_eq (op_text o) (op_text p) && (t && s)) (right_bare a d) (right_bare b e)
right_bare (Three at o a b c) (Three from p d e f) =
    ap (λ t. bytes_eq (op_text o) (op_text p) && (t && (same_tree b (bare e) && same_tree c (bare f)))) (right_bare a d)
    ∙ ap₂ (λ t s. bytes_eq (op_text o) (op_text p) && (same_tree a d && (t && s))) (right_bare b e) (right_bare c f)
right_bare a b = refl

same_back : (a b : Expression) → bare a ≡ bare b → same_tree a b ≡ true
same_back a b e = sym (left_bare a b) ∙ sym (right_bare (bare a) b) ∙ ap (same_tree (bare a)) (sym e) ∙ same_bare (bare a)

pub decided : (a b : Expression) (r : Bool) → IsTrue r ↔ (bare a ≡ bare b) → r ≡ same_tree a b
decided a b true h = sym (same_back a b (h.0 refl))
decided a b false h = by_test (same_tree a b) refl
  where
    by_test : (t : Bool) → same_tree a b ≡ t → false ≡ t
    by_test false e = refl
    by_test true e = absurd (let no : false ≡ true = h.1 (same_forth a b e) in cc)

pub same_trans : (a b c : Expression) → same_tree a b ≡ true → same_tree b c ≡ true → same_tree a c ≡ true
same_trans a b c h k = same_back a c (same_forth a b h ∙ same_forth b c k)

-- ---- rewards that are lacking
pub not_lacking : (values : Name → Option Expression) (w : Write) → lacks values w ≡ false → (v : Expression) × (values w.target.name ≡ Some v) × (same_tree w.value v ≡ true)
not_lacking values w h = by_value (values w.target.name) refl h
  where
    by_value : (o : Option Expression) → values w.target.name ≡ o → not (list_any (same_tree w.value) (if_some o)) ≡ false → (v : Expression) × (values w.target.name ≡ Some v) × (same_tree w.value v ≡ true)
    by_value None e k = absurd cc
    by_value (Some v) e k = (v, e, is (same_tree w.value v) k)
      where
        is : (b : Bool) → not (b || false) ≡ false → b ≡ true
        is true j = refl
        is false j = absurd cc

pub lacking : (values : Name → Option Expression) (w : Write) (v : Expression) → values w.target.name ≡ Some v → same_tree w.value v ≡ true → lacks values w ≡ false
lacking values w v e h = ap (λ o. not (list_any (same_tree w.value) (if_some o))) e ∙ ap (λ b. not (b || false)) h

module _ (things : Name → Option Thing) where
  -- a test that fails at all rewards fails at the first one of a name
  first_of : (q : Write → Bool) (ws : List Write) (x : Name) (v : Expression) → value_for ws x ≡ Some v → is_reward (things x) ≡ true → list_any q (rewards_by things ws) ≡ false →
      (w : Write) × (w.value ≡ v) × (w.target.name ≡ x) × (q w ≡ false)
  first_of q [] x v e r h = absurd cc
  first_of q (w ∷ ws) x v e r h = by_test (is_called x w.target) refl e (λ k. first_of q ws x v k r (rest (is_reward (things w.target.name)) h))
    where
      rest : (b : Bool) → list_any q (if b then w ∷ rewards_by things ws else rewards_by things ws) ≡ false → list_any q (rewards_by things ws) ≡ false
      rest true k = second_false (q w) (list_any q (rewards_by things ws)) k
      rest false k = k

      here : (b : Bool) → b ≡ true → list_any q (if b then w ∷ rewards_by things ws else rewards_by things ws) ≡ false → q w ≡ false
      here true j k = first_false (q w) (list_any q (rewards_by things ws)) k
      here false j k = absurd cc

      by_test : (b : Bool) → is_called x w.target ≡ b → option_map (λ u. u.value) (if b then Some w else find (λ u. is_called x u.target) ws) ≡ Some v →
          (value_for ws x ≡ Some v → (u : Write) × (u.value ≡ v) × (u.target.name ≡ x) × (q u ≡ false)) →
          (u : Write) × (u.value ≡ v) × (u.target.name ≡ x) × (q u ≡ false)
      by_test true c k ih =
          let same = (bytes_eq-Decides w.target.name x).0 c in
          (w, same_Some w.value v k, same, here (is_reward (things w.target.name)) (ap (λ y. is_reward (things y)) same ∙ r) h)
      by_test false c k ih = ih k

  each_reward : (p q : Write → Bool) → ((w : Write) → is_reward (things w.target.name) ≡ true → p w ≡ false → q w ≡ false) → (ws : List Write) →
      list_any p (rewards_by things ws) ≡ false → list_any q (rewards_by things ws) ≡ false
  each_reward p q f [] h = refl
  each_reward p q f (w ∷ ws) h = by_test (is_reward (things w.target.name)) refl h (each_reward p q f ws)
    where
      by_test : (b : Bool) → is_reward (things w.target.name) ≡ b → list_any p (if b then w ∷ rewards_by things ws else rewards_by things ws) ≡ false →
          (list_any p (rewards_by things ws) ≡ false → list_any q (rewards_by things ws) ≡ false) →
          list_any q (if b then w ∷ rewards_by things ws else rewards_by things ws) ≡ false
      by_test true e k ih =
          or_from (q w) (list_any q (rewards_by things ws)) (f w e (first_false (p w) (list_any p (rewards_by things ws)) k))
          (ih (second_false (p w) (list_any p (rewards_by things ws)) k))
      by_test false e k ih = ih k

  -- what is among a second's rewards is among a third's
  one_way : (us vs ws : List Write) → list_any (lacks (value_for vs)) (rewards_by things us) ≡ false → list_any (lacks (value_for ws)) (rewards_by things vs) ≡ false →
      list_any (lacks (value_for ws)) (rewards_by things us) ≡ false
  one_way us vs ws h k = each_reward (lacks (value_for vs)) (lacks (value_for ws))
      (λ w r n.
      let v = not_lacking (value_for vs) w n in
      let u = first_of (lacks (value_for ws)) vs w.target.name v.0 v.1 r k in
      let t = not_lacking (value_for ws) u.0 u.3 in
      lacking (value_for ws) w t.0 (ap (value_for ws) (sym u.2) ∙ t.1)
      (same_trans w.value v.0 t.0 v.2 (ap (λ e. same_tree e t.0) (sym u.1) ∙ t.2)))
      us h

  through_first : (f d e : Destination) → differ things f d ≡ false → differ things f e ≡ false → differ things d e ≡ false
  through_first f d e h k =
      or_from _ _
      (one_way d.writes f.writes e.writes (second_false _ _ h) (first_false _ _ k))
      (one_way e.writes f.writes d.writes (second_false _ _ k) (first_false _ _ h))

  none_from : (f d : Destination) → differ things f d ≡ false → (es : List Destination) → list_any (differ things f) es ≡ false → list_any (differ things d) es ≡ false
  none_from f d h [] k = refl
  none_from f d h (e ∷ es) k =
      or_from (differ things d e) (list_any (differ things d) es) (through_first f d e h (first_false (differ things f e) (list_any (differ things f) es) k))
      (none_from f d h es (second_false (differ things f e) (list_any (differ things f) es) k))

  none_differ : (f : Destination) (ds : List Destination) → list_any (differ things f) ds ≡ false → some_differ things ds ≡ false
  none_differ f [] h = refl
  none_differ f (d ∷ ds) h =
      let own = first_false (differ things f d) (list_any (differ things f) ds) h in
      let rest = second_false (differ things f d) (list_any (differ things f) ds) h in
      or_from (list_any (differ things d) ds) (some_differ things ds) (none_from f d own ds rest) (none_differ f ds rest)

  -- some two differ exactly where one differs from the first
  pub first_decides : (f : Destination) (ds : List Destination) → list_any (differ things f) ds ≡ some_differ things (f ∷ ds)
  first_decides f ds = by_test (list_any (differ things f) ds) refl
    where
      by_test : (b : Bool) → list_any (differ things f) ds ≡ b → b ≡ (b || some_differ things ds)
      by_test true e = refl
      by_test false e = sym (none_differ f ds e)
