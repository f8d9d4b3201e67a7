-- What is seen of a node rests on the nodes before it alone; so what stands goes on standing in lists of nodes that go on. (This
-- project's own.)
use Rattle.std.specs.Prelude.{◌≡◌, ◌<◌, ◌≤◌, ◌+◌, ℕ, zero, suc, List, [], ◌∷◌, ◌++◌, length, slice_get, Bool, true, false, ◌&&◌, nat_lt, Option, Some, None, unwrap_or, if◌then◌else◌}
use Rattle.std.proofs.Common.{refl, sym, ap, ap₂, ◌∙◌, arith}
use Rattle.std.proofs.lemmas.Bool.{ltb-true}
use Rattle.std.proofs.lemmas.List.{length-append, append_assoc, append-nil}
use Rattle.std.proofs.lemmas.Option.{slice_get_past, slice_get_within}
use Rattle.basics.specs.Booleans.{first_true, second_true}
use Rattle.basics.specs.Lists.{slice_get-front}
use Rattle.op_trees.specs.Meaning.{Meaning}
use Rattle.op_trees.specs.Seen.{Seen, known, one_node, two_node, lazy_node}
use Rattle.op_trees.specs.Tree.{Tree}
use Rattle.op_trees.specs.declared.tree.Value.{Value}
use Rattle.instance_start.specs.declared.data.Place.{Place}
use Rattle.expr_store.specs.declared.node.Node.{Node}
use Rattle.expr_store.specs.declared.node.Node.TheVariants.{Fixed, Number, Name, One, Two, Three}
use Rattle.expr_store.specs.Nodes.{is_behind, behind, node_at, Holds, IsGrown, seen_of, seen_node, seen_some, seen_behind, seen_at, Stands}

-- ---- lists that go on
pub grown_none : {O : Type 0} (ns : List (Node O)) → IsGrown ns ns
grown_none ns = record { later = []; is = sym (append-nil ns) }

pub grown_then : {O : Type 0} {a b c : List (Node O)} → IsGrown a b → IsGrown b c → IsGrown a c
grown_then {a = a} g h = record { later = g.later ++ h.later; is = h.is ∙ ap (λ ns. ns ++ h.later) g.is ∙ append_assoc a g.later h.later }

pub grown_length : {O : Type 0} {a b : List (Node O)} → IsGrown a b → length a ≤ length b
grown_length {a = a} g = let e = ap length g.is ∙ length-append a g.later in omega (arith, e)

pub get_last : {A : Type 0} (xs : List A) (x : A) → slice_get (xs ++ x ∷ []) (length xs) ≡ Some x
get_last [] x = refl
get_last (y ∷ xs) x = get_last xs x

none_past : {A : Type 0} (xs : List A) (i : ℕ) → slice_get xs i ≡ None → length xs ≤ i
none_past [] i e = omega arith
none_past (x ∷ xs) zero e = absurd (cc)
none_past (x ∷ xs) (suc i) e = let l : length xs ≤ i = none_past xs i e in omega arith

-- ---- what is seen of nodes
module _ {O : Type 0} (m : Meaning O) (at : Option Place → Option Value) where
  keeps : (before : List Seen) (ns : List (Node O)) (j : ℕ) → j < length before → seen_of (seen_behind m at before ns) j ≡ seen_of before j
  keeps before [] j h = refl
  keeps before (n ∷ ns) j h =
      let s : Seen = seen_some m at (seen_of before) (behind (length before) (Some n)) in
      keeps (before ++ s ∷ []) ns j (omega (arith, length-append before (s ∷ [])))
      ∙ ap (λ o. unwrap_or o (known None)) (slice_get-front before (s ∷ []) j h)

  count : (before : List Seen) (ns : List (Node O)) → length (seen_behind m at before ns) ≡ length before + length ns
  count before [] = omega arith
  count before (n ∷ ns) =
      let s : Seen = seen_some m at (seen_of before) (behind (length before) (Some n)) in
      count (before ++ s ∷ []) ns ∙ omega (arith, length-append before (s ∷ []))

  split : (before : List Seen) (ns later : List (Node O)) → seen_behind m at before (ns ++ later) ≡ seen_behind m at (seen_behind m at before ns) later
  split before [] later = refl
  split before (n ∷ ns) later = split (before ++ seen_some m at (seen_of before) (behind (length before) (Some n)) ∷ []) ns later

  -- a node is seen alike where its operands are
  node_agree : (i : ℕ) (f g : ℕ → Seen) → ((j : ℕ) → j < i → f j ≡ g j) → (n : Node O) → is_behind i n ≡ true → seen_node m at f n ≡ seen_node m at g n
  node_agree i f g h (Fixed v) k = refl
  node_agree i f g h (Number d) k = refl
  node_agree i f g h (Name p) k = refl
  node_agree i f g h (One o a) k = ap (one_node m o) (h a (ltb-true a i k))
  node_agree i f g h (Two o a b) k =
      ap₂ (two_node m o) (h a (ltb-true a i (first_true (nat_lt a i) (nat_lt b i) k))) (h b (ltb-true b i (second_true (nat_lt a i) (nat_lt b i) k)))
  node_agree i f g h (Three o a b c) k =
      let k₁ : (nat_lt a i && nat_lt b i) ≡ true = first_true (nat_lt a i && nat_lt b i) (nat_lt c i) k in
      let e₁ = h a (ltb-true a i (first_true (nat_lt a i) (nat_lt b i) k₁)) in
      let e₂ = h b (ltb-true b i (second_true (nat_lt a i) (nat_lt b i) k₁)) in
      let e₃ = h c (ltb-true c i (second_true (nat_lt a i && nat_lt b i) (nat_lt c i) k)) in
      ap₂ {B = Seen → Seen} (λ r t. t r) e₁ (ap₂ (λ s t r. lazy_node m o r s t) e₂ e₃)

  some_agree : (i : ℕ) (f g : ℕ → Seen) → ((j : ℕ) → j < i → f j ≡ g j) → (n : Node O) → seen_some m at f (behind i (Some n)) ≡ seen_some m at g (behind i (Some n))
  some_agree i f g h n = by_test (is_behind i n) refl
    where
      by_test : (b : Bool) → is_behind i n ≡ b → seen_some m at f (if b then Some n else None) ≡ seen_some m at g (if b then Some n else None)
      by_test true e = node_agree i f g h n e
      by_test false e = refl

  -- a node is seen by what is seen of the whole list
  at_index : (before : List Seen) (ns : List (Node O)) (i k : ℕ) (n : Node O) → k ≡ length before + i → slice_get ns i ≡ Some n →
      seen_of (seen_behind m at before ns) k ≡ seen_some m at (seen_of (seen_behind m at before ns)) (behind k (Some n))
  at_index before [] i k n e h = absurd (cc)
  at_index before (x ∷ ns) zero k n e h =
      let s : Seen = seen_some m at (seen_of before) (behind (length before) (Some x)) in
      let same : k ≡ length before = omega arith in
      let all : List Seen = seen_behind m at (before ++ s ∷ []) ns in
      let is : x ≡ n = cc in
      let more : length (before ++ s ∷ []) ≡ length before + 1 = length-append before (s ∷ []) in
      ap (seen_of all) same
      ∙ keeps (before ++ s ∷ []) ns (length before) (omega (arith, more))
      ∙ ap (λ o. unwrap_or o (known None)) (get_last before s)
      ∙ some_agree (length before) (seen_of before) (seen_of all) (λ j l. sym (keeps (before ++ s ∷ []) ns j (omega (arith, more)) ∙ ap (λ o. unwrap_or o (known None)) (slice_get-front before (s ∷ []) j l))) x
      ∙ ap₂ (λ l y. seen_some m at (seen_of all) (behind l (Some y))) (sym same) is
  at_index before (x ∷ ns) (suc i) k n e h =
      let s : Seen = seen_some m at (seen_of before) (behind (length before) (Some x)) in
      at_index (before ++ s ∷ []) ns i k n (omega (arith, length-append before (s ∷ []))) h

  pub seen_is : (ns : List (Node O)) (i : ℕ) → seen_at m at ns i ≡ seen_some m at (seen_at m at ns) (node_at ns i)
  unfolding seen_at
  seen_is ns i = by_node (slice_get ns i) refl
    where
      by_node : (o : Option (Node O)) → slice_get ns i ≡ o → seen_of (seen_behind m at [] ns) i ≡ seen_some m at (seen_of (seen_behind m at [] ns)) (behind i o)
      by_node (Some n) e = at_index [] ns i i n (omega arith) e
      by_node None e = ap (λ o. unwrap_or o (known None)) (slice_get_past (seen_behind m at [] ns) i (omega (arith, count [] ns, none_past ns i e)))

  -- nodes that come later change nothing
  pub seen_later : (ns later : List (Node O)) (i : ℕ) → i < length ns → seen_at m at (ns ++ later) i ≡ seen_at m at ns i
  unfolding seen_at
  seen_later ns later i h =
      ap (λ s. seen_of s i) (split [] ns later) ∙ keeps (seen_behind m at [] ns) later i (omega (arith, count [] ns))

  -- a node that stands behind its operands
  pub seen_held : (ns : List (Node O)) (i : ℕ) (n : Node O) → Holds ns i n → seen_at m at ns i ≡ seen_node m at (seen_at m at ns) n
  seen_held ns i n h =
      seen_is ns i ∙ ap (λ o. seen_some m at (seen_at m at ns) (behind i o)) h.is ∙ ap (λ b. seen_some m at (seen_at m at ns) (if b then Some n else None)) h.behind

-- ---- what stands
pub held_later : {O : Type 0} {ns new : List (Node O)} {i : ℕ} {n : Node O} → IsGrown ns new → Holds ns i n → Holds new i n
held_later {ns = ns} {i = i} {n = n} g h = record {
  is = ap (λ all. slice_get all i) g.is ∙ slice_get-front ns g.later i (slice_get_within ns i n h.is) ∙ h.is;
  behind = h.behind;
}

pub stands_later : {O : Type 0} {m : Meaning O} {places : List ℕ → Option Place} {old new : List (Node O)} {i : ℕ} {t : Tree O} →
    IsGrown old new → Stands m places old i t → Stands m places new i t
stands_later {m = m} {old = old} {new = new} {i = i} g h = record {
  within = let l : length old ≤ length new = grown_length g in omega (arith, l, h.within);
  sees = λ later at. ap (λ ns. seen_at m at ns i) (ap (λ ns. ns ++ later) g.is ∙ append_assoc old g.later later) ∙ h.sees (g.later ++ later) at;
}
