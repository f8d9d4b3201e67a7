-- Two states have the same key only where they are the same; keys in order, and what finds their places.
use Rattle.std.proofs.Common.{◌≡◌, ◌<◌, ◌+◌, ◌||◌, ℕ, ℤ, pos, List, [], ◌∷◌, ◌++◌, map, Bool, true, false, cond, not, if◌then◌else◌, Option, Some, None, Vec, Global, refl, sym, ap, ap₂, ◌∙◌, arith, append-nil, append_assoc, length, length-append, subst, slice_set, get_or}
use Rattle.std.specs.List.{list_any, position_or_len, position_from}
use Rattle.std.proofs.lemmas.List.{map-append, length-map}
use Rattle.std.proofs.lemmas.Simd.{map-map}
use Rattle.std.proofs.Math.Seq.{map-set_same}
use Rattle.std.specs.Option.{option_or}
use Rattle.std.specs.Ordering.{int_eq, int_cmp, is_eq, ordering_then}
use Rattle.std.specs.declared.cmp.Ordering.{Ordering}
use Rattle.std.specs.declared.cmp.Ordering.TheVariants.{Less, Equal, Greater}
use Rattle.std.specs.Cmp.{int_cmp_total, tied_itself}
use Rattle.std.proofs.lemmas.Cmp.{lists_total}
use Rattle.std.specs.Cmp.Lexicographic.{slice_cmp, pointwise}
use Rattle.std.specs.BTreeMap.{BTreeMap, get, Updates}
use Rattle.std.proofs.lemmas.Map.Lookups.{CmpEqualImpliesEq, exact_signed}
use Rattle.std.specs.Cmp.Rules.{signed_items}
use Rattle.basics.specs.Lists.{cons_same}
use Rattle.basics.specs.Members.{none_at_end}
use Rattle.basics.specs.Booleans.{same_test}
use Rattle.frac_core.specs.Fraction.{Fraction, nought}
use Rattle.frac_core.specs.Laws.{same_parts, den_pos}
use Rattle.op_trees.specs.declared.tree.Value.{Value}
use Rattle.op_trees.specs.declared.tree.Value.TheVariants as V
use Rattle.process_core.specs.Process.{Branch}
use Rattle.process_core.specs.declared.data.Branch as code_branch
use Rattle.process_core.specs.declared.data.State.{State}
use Rattle.process_core.specs.Seen.{seen_branch}
use Rattle.process_core.specs.Ready.{Values}
use Rattle.process_core.specs.Equal.{equal_states, equal_states_is}
use Rattle.process_core.specs.Merging.{parts_of, key_of, keys_of, by_items, IsIndex}

no_zero : (x : Fraction) → pos x.den ≡ pos 0 → ⊥
no_zero x h = let e : x.den ≡ 0 = cc in let p = den_pos x in omega arith

heads : {a b c d : ℤ} {xs ys : List ℤ} → ◌≡◌ {A = List ℤ} (a ∷ b ∷ xs) (c ∷ d ∷ ys) → (a ≡ c) × (b ≡ d) × (xs ≡ ys)
heads h = (cc, cc, cc)

key_one : (v w : Value) (s t : Values) → parts_of v ++ key_of s ≡ parts_of w ++ key_of t → (v ≡ w) × (key_of s ≡ key_of t)
key_one (V.Truth true) (V.Truth true) s t h = (refl, (heads h).2)
key_one (V.Truth true) (V.Truth false) s t h = absurd (let e = (heads h).0 in cc)
key_one (V.Truth false) (V.Truth true) s t h = absurd (let e = (heads h).0 in cc)
key_one (V.Truth false) (V.Truth false) s t h = (refl, (heads h).2)
key_one (V.Truth true) (V.Number y) s t h = absurd (no_zero y (sym (heads h).1))
key_one (V.Truth false) (V.Number y) s t h = absurd (no_zero y (sym (heads h).1))
key_one (V.Number x) (V.Truth true) s t h = absurd (no_zero x (heads h).1)
key_one (V.Number x) (V.Truth false) s t h = absurd (no_zero x (heads h).1)
key_one (V.Number x) (V.Number y) s t h =
    (ap V.Number (same_parts x y (heads h).0 (let e = (heads h).1 in cc)), (heads h).2)

key_some : (v : Value) (s : Values) → [] ≡ parts_of v ++ key_of s → ⊥
key_some (V.Truth true) s h = cc
key_some (V.Truth false) s h = cc
key_some (V.Number x) s h = cc

pub key_same : (s t : Values) → key_of s ≡ key_of t → s ≡ t
key_same [] [] h = refl
key_same [] (w ∷ t) h = absurd (key_some w t h)
key_same (v ∷ s) [] h = absurd (key_some v s (sym h))
key_same (v ∷ s) (w ∷ t) h = let e = key_one v w s t h in cons_same v w s t e.0 (key_same s t e.1)

pub key_test : (s t : Values) → pointwise int_eq (key_of s) (key_of t) ≡ equal_states s t
key_test s t =
    same_test (pointwise int_eq (key_of s) (key_of t)) (equal_states s t)
    (λ h. (equal_states_is s t).1 (key_same s t ((signed_items (key_of s) (key_of t)).0 h)))
    (λ h. (signed_items (key_of s) (key_of t)).1 (ap key_of ((equal_states_is s t).0 h)))

pub key_more : (s : Values) (v : Value) → key_of (s ++ v ∷ []) ≡ key_of s ++ parts_of v
key_more [] v = append-nil (parts_of v)
key_more (w ∷ s) v = ap (λ l. parts_of w ++ l) (key_more s v) ∙ sym (append_assoc (parts_of w) (key_of s) (parts_of v))

-- one value more
pub key_next : (k0 k1 ps : List ℤ) (v : Value) (s0 s1 : Values) → k1 ≡ k0 ++ ps → ps ≡ parts_of v → k0 ≡ key_of s0 → s1 ≡ s0 ++ v ∷ [] → k1 ≡ key_of s1
key_next k0 k1 ps v s0 s1 p q h e = p ∙ ap₂ (λ a b. a ++ b) h q ∙ sym (ap key_of e ∙ key_more s0 v)

-- ---- keys in order
ordering_equal : (a b : Ordering) → ordering_then a b ≡ Equal → (a ≡ Equal) × (b ≡ Equal)
ordering_equal Less b h = cc
ordering_equal Equal b h = (refl, h)
ordering_equal Greater b h = cc

exact_items : CmpEqualImpliesEq (slice_cmp int_cmp)
exact_items [] [] h = refl
exact_items [] (y ∷ ys) h = cc
exact_items (x ∷ xs) [] h = cc
exact_items (x ∷ xs) (y ∷ ys) h =
    let e = ordering_equal (int_cmp x y) (slice_cmp int_cmp xs ys) h in
    let a = exact_signed x y e.0 in
    let b = exact_items xs ys e.1 in
    cc

compares_equal : (xs : List ℤ) → slice_cmp int_cmp xs xs ≡ Equal
compares_equal xs = tied_itself (lists_total int_cmp_total) xs

pub is_equal : (o : Ordering) → is_eq o ≡ true → o ≡ Equal
is_equal Less h = cc
is_equal Equal h = refl
is_equal Greater h = cc

-- what is at one place is equal
pub items_compared : (xs ys : List ℤ) → is_eq (slice_cmp int_cmp xs ys) ≡ pointwise int_eq ys xs
items_compared xs ys =
    same_test _ _
    (λ h. (signed_items ys xs).1 (sym (exact_items xs ys (is_equal _ h))))
    (λ h. ap (λ x. is_eq (slice_cmp int_cmp xs x)) ((signed_items ys xs).0 h) ∙ ap is_eq (compares_equal xs))

-- ---- the first place that passes
module _ {K : Type 0} (p : K → Bool) where
  pub place_push : (i : ℕ) (ks : List K) (k : K) → position_from p i (ks ++ k ∷ []) ≡ option_or (position_from p i ks) (cond (p k) (Some (i + length ks)) None)
  place_push i [] k = let e : i ≡ i + 0 = omega arith in ap (λ n. cond (p k) (Some n) None) e
  place_push i (x ∷ ks) k = by_test (p x) (place_push (i + 1) ks k)
    where
      further : i + 1 + length ks ≡ i + length (x ∷ ks)
      further = omega arith

      by_test : (b : Bool) → position_from p (i + 1) (ks ++ k ∷ []) ≡ option_or (position_from p (i + 1) ks) (cond (p k) (Some (i + 1 + length ks)) None) →
          cond b (Some i) (position_from p (i + 1) (ks ++ k ∷ [])) ≡ option_or (cond b (Some i) (position_from p (i + 1) ks)) (cond (p k) (Some (i + length (x ∷ ks))) None)
      by_test true ih = refl
      by_test false ih = ih ∙ ap (λ n. option_or (position_from p (i + 1) ks) (cond (p k) (Some n) None)) further

  pub none_before : (i : ℕ) (ks : List K) → position_from p i ks ≡ None → list_any p ks ≡ false
  none_before i [] h = refl
  none_before i (x ∷ ks) h = by_test (p x) (none_before (i + 1) ks) h
    where
      by_test : (b : Bool) → (position_from p (i + 1) ks ≡ None → list_any p ks ≡ false) → cond b (Some i) (position_from p (i + 1) ks) ≡ None → (b || list_any p ks) ≡ false
      by_test true ih e = cc
      by_test false ih e = ih e

  pub found_at : (i : ℕ) (ks : List K) (j : ℕ) → position_from p i ks ≡ Some j → (list_any p ks ≡ true) × (j ≡ i + position_or_len p ks) × (position_or_len p ks < length ks)
  found_at i [] j h = cc
  found_at i (x ∷ ks) j h = by_test (p x) (found_at (i + 1) ks j) h
    where
      by_test : (b : Bool) → (position_from p (i + 1) ks ≡ Some j → (list_any p ks ≡ true) × (j ≡ i + 1 + position_or_len p ks) × (position_or_len p ks < length ks)) →
          cond b (Some i) (position_from p (i + 1) ks) ≡ Some j →
          ((b || list_any p ks) ≡ true) × (j ≡ i + cond (not b) (1 + position_or_len p ks) 0) × (cond (not b) (1 + position_or_len p ks) 0 < length (x ∷ ks))
      by_test true ih e = (refl, let f : i ≡ j = cc in omega arith, omega arith)
      by_test false ih e = let r = ih e in (r.0, let f = r.1 in omega arith, let f = r.2 in omega arith)

-- ---- an index of the keys
module _ (m n : BTreeMap (Vec ℤ Global) ℕ) (ks : List (List ℤ)) (key : Vec ℤ Global) (is : IsIndex m ks) where
  pub index_more : (w : ℕ) → get by_items m key ≡ None → w ≡ length ks → Updates by_items m n key (Some w) → IsIndex n (ks ++ key.items ∷ [])
  index_more w none l u q =
      u.0 q ∙ ap (λ b. cond b (Some w) (get by_items m q)) (items_compared key.items q.items) ∙ by_test (pointwise int_eq q.items key.items) refl
      ∙ sym (place_push (pointwise int_eq q.items) 0 ks key.items)
    where
      none_here : q.items ≡ key.items → position_from (pointwise int_eq q.items) 0 ks ≡ None
      none_here e = ap (λ x. position_from (pointwise int_eq x) 0 ks) e ∙ sym (is key) ∙ none

      left : (o : Option ℕ) → o ≡ option_or o None
      left None = refl
      left (Some x) = refl

      from_none : (o : Option ℕ) → o ≡ None → Some (length ks) ≡ option_or o (Some (0 + length ks))
      from_none None h = let e : length ks ≡ 0 + length ks = omega arith in ap Some e
      from_none (Some x) h = absurd cc

      by_test : (b : Bool) → b ≡ pointwise int_eq q.items key.items → cond b (Some w) (get by_items m q) ≡ option_or (position_from (pointwise int_eq q.items) 0 ks) (cond b (Some (0 + length ks)) None)
      by_test true h = ap Some l ∙ from_none (position_from (pointwise int_eq q.items) 0 ks) (none_here ((signed_items q.items key.items).0 (sym h)))
      by_test false h = is q ∙ left (position_from (pointwise int_eq q.items) 0 ks)

-- ---- the sums after a target is looked up
pub opened_sum : (old new : List code_branch.Branch) (x : Fraction) (s : State) (rs : List Fraction) (t : Values) →
    new ≡ old ++ record { weight = x; target = s; rewards = rs } ∷ [] → x ≡ nought → s.values ≡ t → rs ≡ [] →
    map seen_branch new ≡ map seen_branch old ++ record { probability = nought; target = t; rewards = [] } ∷ []
opened_sum old new x s rs t e p q r =
    ap (map seen_branch) e ∙ map-append seen_branch old (record { weight = x; target = s; rewards = rs } ∷ [])
    ∙ ap (λ y. map seen_branch old ++ y ∷ []) (same_entry p q r)
  where
    same_entry : x ≡ nought → s.values ≡ t → rs ≡ [] → ◌≡◌ {A = Branch Fraction Values} (record { probability = x; target = s.values; rewards = rs }) (record { probability = nought; target = t; rewards = [] })
    same_entry u v w = cc

-- another probability leaves the keys as they are
pub keys_kept : (next : List code_branch.Branch) (i : ℕ) (x : code_branch.Branch) (w : Fraction) → x ≡ get_or next i x →
    keys_of (map seen_branch (slice_set next i (record { weight = w; target = x.target; rewards = x.rewards }))) ≡ keys_of (map seen_branch next)
keys_kept next i x w e =
    map-map _ seen_branch (slice_set next i (record { weight = w; target = x.target; rewards = x.rewards }))
    ∙ map-set_same (λ (b : code_branch.Branch). key_of b.target.values) next i (record { weight = w; target = x.target; rewards = x.rewards }) x (ap (λ (b : code_branch.Branch). key_of b.target.values) e)
    ∙ sym (map-map _ seen_branch next)

-- ---- what a target's look-up comes to
module _ (m : BTreeMap (Vec ℤ Global) ℕ) (old : List code_branch.Branch) (key : Vec ℤ Global) (t : Values) (e : key.items ≡ key_of t) (is : IsIndex m (keys_of (map seen_branch old))) where
  seen_at : get by_items m key ≡ position_from (pointwise int_eq (key_of t)) 0 (keys_of (map seen_branch old))
  seen_at = is key ∙ ap (λ x. position_from (pointwise int_eq x) 0 (keys_of (map seen_branch old))) e

  same_length : length (keys_of (map seen_branch old)) ≡ length old
  same_length = length-map (map seen_branch old) (λ b. key_of b.target) ∙ length-map old seen_branch

  pub target_found : (i : ℕ) → get by_items m key ≡ Some i →
      (i ≡ position_or_len (pointwise int_eq (key_of t)) (keys_of (map seen_branch old)))
      × (map seen_branch old ≡ (if list_any (pointwise int_eq (key_of t)) (keys_of (map seen_branch old)) then map seen_branch old else map seen_branch old ++ record { probability = nought; target = t; rewards = [] } ∷ []))
      × (i < length old)
  target_found i h =
      let r = found_at (pointwise int_eq (key_of t)) 0 (keys_of (map seen_branch old)) i (sym seen_at ∙ h) in
      let f = r.1 in
      let p : i ≡ position_or_len (pointwise int_eq (key_of t)) (keys_of (map seen_branch old)) = omega arith in (
        p,
        by_test (list_any (pointwise int_eq (key_of t)) (keys_of (map seen_branch old))) r.0,
        let f = r.2 in let l = same_length in omega arith,
      )
    where
      by_test : (b : Bool) → b ≡ true → map seen_branch old ≡ (if b then map seen_branch old else map seen_branch old ++ record { probability = nought; target = t; rewards = [] } ∷ [])
      by_test true g = refl
      by_test false g = absurd cc

  module _ (new : List code_branch.Branch) (opened : map seen_branch new ≡ map seen_branch old ++ record { probability = nought; target = t; rewards = [] } ∷ []) (none : get by_items m key ≡ None) where
    none_there : list_any (pointwise int_eq (key_of t)) (keys_of (map seen_branch old)) ≡ false
    none_there = none_before (pointwise int_eq (key_of t)) 0 (keys_of (map seen_branch old)) (sym seen_at ∙ none)

    pub target_opened : (i : ℕ) → i ≡ length old →
        (i ≡ position_or_len (pointwise int_eq (key_of t)) (keys_of (map seen_branch old)))
        × (map seen_branch new ≡ (if list_any (pointwise int_eq (key_of t)) (keys_of (map seen_branch old)) then map seen_branch old else map seen_branch old ++ record { probability = nought; target = t; rewards = [] } ∷ []))
        × (i < length new)
    target_opened i l = (
      l ∙ sym same_length ∙ sym (none_at_end (pointwise int_eq (key_of t)) (keys_of (map seen_branch old)) none_there),
      opened ∙ by_test (list_any (pointwise int_eq (key_of t)) (keys_of (map seen_branch old))) none_there,
      let a = ap length opened in let b = length-map new seen_branch in let c = length-map old seen_branch in let d = length-append (map seen_branch old) (record { probability = nought; target = t; rewards = [] } ∷ []) in omega arith,
    )
      where
        by_test : (b : Bool) → b ≡ false → map seen_branch old ++ record { probability = nought; target = t; rewards = [] } ∷ [] ≡ (if b then map seen_branch old else map seen_branch old ++ record { probability = nought; target = t; rewards = [] } ∷ [])
        by_test true g = absurd cc
        by_test false g = refl

    pub target_indexed : (n : BTreeMap (Vec ℤ Global) ℕ) (i : ℕ) → i ≡ length old → Updates by_items m n key (Some i) → IsIndex n (keys_of (map seen_branch new))
    target_indexed n i l u =
        let keys : keys_of (map seen_branch new) ≡ keys_of (map seen_branch old) ++ key.items ∷ [] =
        ap keys_of opened ∙ map-append (λ b. key_of b.target) (map seen_branch old) (record { probability = nought; target = t; rewards = [] } ∷ []) ∙ ap (λ k. keys_of (map seen_branch old) ++ k ∷ []) (sym e) in
        subst (IsIndex n) (sym keys) (index_more m n (keys_of (map seen_branch old)) key is i none (l ∙ sym same_length) u)
