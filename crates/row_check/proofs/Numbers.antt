-- The numbers of listed states.
use Rattle.std.proofs.Common.{◌≡◌, ◌⊎◌, ℕ, suc, ◌+◌, ◌<◌, ◌≤◌, ℤ, List, [], ◌∷◌, ◌++◌, ◌||◌, Bool, true, false, cond, Option, Some, None, is_some, not, if◌then◌else◌, Vec, Global, length, length-append, refl, sym, ap, ◌∙◌, inl, inr, arith}
use Rattle.std.specs.Ordering.{int_cmp, is_eq}
use Rattle.std.specs.Cmp.Lexicographic.{slice_cmp}
use Rattle.std.specs.BTreeMap.{BTreeMap, get, Updates}
use Rattle.process_core.specs.Ready.{Values}
use Rattle.process_core.specs.Equal.{equal_states, equal_states_is}
use Rattle.process_core.specs.Merging.{key_of, by_items}
use Rattle.process_core.specs.declared.data.State.{State}
use Rattle.row_check.specs.Index.{stands_in, values_at, number_from, IsIndex, AddsState}
use Rattle.process_core.proofs.Keys.{key_test, items_compared}
use Rattle.std.proofs.lemmas.Bool.{cases_lt}
use Rattle.std.proofs.lemmas.List.{get_or_push, get_or_append_left}

pub no_number : (k : ℕ) (t : Values) (ss : List State) → number_from k t ss ≡ None → stands_in t ss ≡ false
no_number k t [] h = refl
no_number k t (s ∷ ss) h = by_test (no_number (k + 1) t ss) (equal_states t s.values) h
  where
    by_test : (number_from (k + 1) t ss ≡ None → stands_in t ss ≡ false) → (b : Bool) → (if b then Some k else number_from (k + 1) t ss) ≡ None → (b || stands_in t ss) ≡ false
    by_test ih true e = cc
    by_test ih false e = ih e

pub some_number : (k : ℕ) (t : Values) (ss : List State) (i : ℕ) → number_from k t ss ≡ Some i → stands_in t ss ≡ true
some_number k t [] i h = cc
some_number k t (s ∷ ss) i h = by_test (some_number (k + 1) t ss i) (equal_states t s.values) h
  where
    by_test : (number_from (k + 1) t ss ≡ Some i → stands_in t ss ≡ true) → (b : Bool) → (if b then Some k else number_from (k + 1) t ss) ≡ Some i → (b || stands_in t ss) ≡ true
    by_test ih true e = refl
    by_test ih false e = ih e

-- the state of the number that is found
pub number_is : (k : ℕ) (t : Values) (ss : List State) (i : ℕ) → number_from k t ss ≡ Some i → (j : ℕ) × (i ≡ k + j) × (j < length ss) × (values_at ss j ≡ t)
number_is k t [] i h = cc
number_is k t (s ∷ ss) i h = by_test (number_is (k + 1) t ss i) (equal_states t s.values) refl h
  where
    by_test : (number_from (k + 1) t ss ≡ Some i → (j : ℕ) × (i ≡ k + 1 + j) × (j < length ss) × (values_at ss j ≡ t)) → (b : Bool) → b ≡ equal_states t s.values →
        (if b then Some k else number_from (k + 1) t ss) ≡ Some i → (j : ℕ) × (i ≡ k + j) × (j < length (s ∷ ss)) × (values_at (s ∷ ss) j ≡ t)
    by_test ih true q e = (0, let f : k ≡ i = cc in omega arith, omega arith, sym ((equal_states_is t s.values).0 (sym q)))
    by_test ih false q e = let r = ih e in (suc r.0, omega arith, omega arith, r.3)

number_push_at : (k : ℕ) (t : Values) (s : State) (n : ℕ) (o : Option ℕ) → Option ℕ
number_push_at k t s n (Some i) = Some i
number_push_at k t s n None = if equal_states t s.values then Some (k + n) else None

same_push_at : (k : ℕ) (t : Values) (s : State) (n : ℕ) (o : Option ℕ) → number_push_at (k + 1) t s n o ≡ number_push_at k t s (suc n) o
unfolding number_push_at
same_push_at k t s n (Some i) = refl
same_push_at k t s n None = let e : k + 1 + n ≡ k + suc n = omega arith in ap (λ m. if equal_states t s.values then Some m else None) e

number_push : (k : ℕ) (t : Values) (ss : List State) (s : State) → number_from k t (ss ++ s ∷ []) ≡ number_push_at k t s (length ss) (number_from k t ss)
unfolding number_push_at
number_push k t [] s = let e : k ≡ k + 0 = omega arith in ap (λ m. if equal_states t s.values then Some m else None) e
number_push k t (x ∷ ss) s = by_test (number_push (k + 1) t ss s ∙ same_push_at k t s (length ss) (number_from (k + 1) t ss)) (equal_states t x.values)
  where
    by_test : number_from (k + 1) t (ss ++ s ∷ []) ≡ number_push_at k t s (suc (length ss)) (number_from (k + 1) t ss) → (b : Bool) →
        (if b then Some k else number_from (k + 1) t (ss ++ s ∷ [])) ≡ number_push_at k t s (suc (length ss)) (if b then Some k else number_from (k + 1) t ss)
    by_test ih true = refl
    by_test ih false = ih

-- ---- keys
-- the keys of two states are compared as the states are
key_compared : (s t : Values) → is_eq (slice_cmp int_cmp (key_of s) (key_of t)) ≡ equal_states t s
key_compared s t = items_compared (key_of s) (key_of t) ∙ key_test t s

push_other : (k : ℕ) (t : Values) (s : State) (n : ℕ) (o : Option ℕ) → equal_states t s.values ≡ false → number_push_at k t s n o ≡ o
unfolding number_push_at
push_other k t s n (Some i) h = refl
push_other k t s n None h = ap (λ b. if b then Some (k + n) else None) h

push_new : (t : Values) (s : State) (n : ℕ) (o : Option ℕ) → o ≡ None → equal_states t s.values ≡ true → number_push_at 0 t s n o ≡ Some n
unfolding number_push_at
push_new t s n (Some i) e h = cc
push_new t s n None e h = let z : 0 + n ≡ n = omega arith in ap (λ b. if b then Some (0 + n) else None) h ∙ ap Some z

push_old : (k : ℕ) (t : Values) (s : State) (n : ℕ) (o : Option ℕ) (j : ℕ) → o ≡ Some j → number_push_at k t s n o ≡ Some j
unfolding number_push_at
push_old k t s n (Some i) j h = h
push_old k t s n None j h = absurd cc

module _ (m n : BTreeMap (Vec ℤ Global) ℕ) (ss : List State) (s : State) (key : Vec ℤ Global) (e : key.items ≡ key_of s.values) (i : IsIndex m ss) where
  old_number : get by_items m key ≡ number_from 0 s.values ss
  old_number = i.finds key s.values e

  found : (w : ℕ) → w ≡ length ss → Updates by_items m n key (Some w) → number_from 0 s.values ss ≡ None → (q : Vec ℤ Global) (t : Values) → q.items ≡ key_of t → get by_items n q ≡ number_from 0 t (ss ++ s ∷ [])
  found w l u none q t f =
      u.0 q
      ∙ ap (λ b. cond b (Some w) (get by_items m q)) (ap (λ x. is_eq (slice_cmp int_cmp x q.items)) e ∙ ap (λ x. is_eq (slice_cmp int_cmp (key_of s.values) x)) f ∙ key_compared s.values t)
      ∙ by_test (equal_states t s.values) refl
      ∙ sym (number_push 0 t ss s)
    where
      by_test : (b : Bool) → b ≡ equal_states t s.values → cond b (Some w) (get by_items m q) ≡ number_push_at 0 t s (length ss) (number_from 0 t ss)
      by_test true h = ap Some l ∙ sym (push_new t s (length ss) (number_from 0 t ss) (ap (λ x. number_from 0 x ss) ((equal_states_is t s.values).0 (sym h)) ∙ none) (sym h))
      by_test false h = i.finds q t f ∙ sym (push_other 0 t s (length ss) (number_from 0 t ss) (sym h))

  first_pushed : number_from 0 s.values ss ≡ None → (j : ℕ) → j < length (ss ++ s ∷ []) → number_from 0 (values_at (ss ++ s ∷ []) j) (ss ++ s ∷ []) ≡ Some j
  first_pushed none j l = by_order (cases_lt j (length ss))
    where
      here : j ≡ length ss → number_from 0 (values_at (ss ++ s ∷ []) j) (ss ++ s ∷ []) ≡ Some j
      here f =
          let at : values_at (ss ++ s ∷ []) j ≡ s.values = ap (λ (x : State). x.values) (get_or_push ss s (record { values = [] }) j (sym f)) in
          ap (λ t. number_from 0 t (ss ++ s ∷ [])) at ∙ number_push 0 s.values ss s
          ∙ push_new s.values s (length ss) (number_from 0 s.values ss) none ((equal_states_is s.values s.values).1 refl) ∙ ap Some (sym f)

      before : j < length ss → number_from 0 (values_at (ss ++ s ∷ []) j) (ss ++ s ∷ []) ≡ Some j
      before f =
          let at : values_at (ss ++ s ∷ []) j ≡ values_at ss j = ap (λ (x : State). x.values) (get_or_append_left ss (s ∷ []) (record { values = [] }) j f) in
          ap (λ t. number_from 0 t (ss ++ s ∷ [])) at ∙ number_push 0 (values_at ss j) ss s
          ∙ push_old 0 (values_at ss j) s (length ss) (number_from 0 (values_at ss j) ss) j (i.first j f)

      by_order : (j < length ss) ⊎ (length ss ≤ j) → number_from 0 (values_at (ss ++ s ∷ []) j) (ss ++ s ∷ []) ≡ Some j
      by_order (inl f) = before f
      by_order (inr f) = here (let e = length-append ss (s ∷ []) in omega arith)

  pub adds_state : (w : ℕ) (old : Option ℕ) (r : Bool) → old ≡ get by_items m key → Updates by_items m n key (Some w) → is_some old ≡ not r → w ≡ length ss → AddsState n ss s r
  adds_state w None true h u r l =
      let none : number_from 0 s.values ss ≡ None = sym (h ∙ old_number) in
      (no_number 0 s.values ss none, record { finds = found w l u none; first = first_pushed none })
  adds_state w None false h u r l = absurd cc
  adds_state w (Some j) true h u r l = absurd cc
  adds_state w (Some j) false h u r l = some_number 0 s.values ss j (sym (h ∙ old_number))
