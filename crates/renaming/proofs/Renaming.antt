-- The entries of asks go with them one to one.
use Rattle.std.specs.Prelude.{◌≡◌, ℕ, zero, suc, List, [], ◌∷◌, ◌++◌, length, take, drop, Some, slice_get}
use Rattle.std.proofs.Common.{refl, sym, ap, ◌∙◌, arith, append_assoc, length-append}
use Rattle.std.proofs.lemmas.Option.{same_Some}
use Rattle.name_table.specs.declared.class.Target.{Target}
use Rattle.name_table.specs.declared.entry.Entry.{Entry}
use Rattle.name_table.specs.Entries.{Ask, next, entries_of}
use Rattle.name_table.proofs.EntryLemmas.{after_append, first_alone, no_two_alike, one_each}
use Rattle.renaming.specs.Renaming.{EntriesAreOneToOne}

-- ---- lists, cut at a place
split_at : {A : Type 0} (xs : List A) (i : ℕ) (x : A) → slice_get xs i ≡ Some x → take i xs ++ x ∷ drop (suc i) xs ≡ xs
split_at [] i x h = absurd cc
split_at {A = A} (y ∷ xs) zero x h = ap (λ (z : A). z ∷ xs) (sym (same_Some y x h))
split_at {A = A} (y ∷ xs) (suc i) x h = ap (λ (l : List A). y ∷ l) (split_at xs i x h)

front_length : {A : Type 0} (xs : List A) (i : ℕ) (x : A) → slice_get xs i ≡ Some x → length (take i xs) ≡ i
front_length [] i x h = absurd cc
front_length (y ∷ xs) zero x h = refl
front_length (y ∷ xs) (suc i) x h = ap suc (front_length xs i x h)

in_front : {A : Type 0} (xs : List A) (i : ℕ) (x : A) → slice_get xs i ≡ Some x → slice_get (take (suc i) xs) i ≡ Some x
in_front [] i x h = absurd cc
in_front (y ∷ xs) zero x h = h
in_front (y ∷ xs) (suc i) x h = in_front xs i x h

last_is : {A : Type 0} (xs : List A) (y x : A) (i : ℕ) → i ≡ length xs → slice_get (xs ++ y ∷ []) i ≡ Some x → x ≡ y
last_is [] y x zero e h = sym (same_Some y x h)
last_is [] y x (suc i) e h = absurd (omega arith)
last_is (z ∷ xs) y x zero e h = absurd (omega arith)
last_is (z ∷ xs) y x (suc i) e h = last_is xs y x i (omega arith) h

-- ---- the entry at a place comes of the ask there and of the entries before it
module _ (t : Target) (asks : List Ask) (i : ℕ) (a : Ask) (e : Entry) (asked : slice_get asks i ≡ Some a) (stands : slice_get (entries_of t asks) i ≡ Some e) where
  abbrev es : List Entry
  es = entries_of t asks

  abbrev front : List Ask
  front = take i asks

  abbrev behind : List Ask
  behind = drop (suc i) asks

  whole : entries_of t (front ++ a ∷ behind) ≡ es
  whole = ap (entries_of t) (split_at asks i a asked)

  whole_too : entries_of t ((front ++ a ∷ []) ++ behind) ≡ es
  whole_too = ap (entries_of t) (append_assoc front (a ∷ []) behind) ∙ whole

  before : take i es ≡ entries_of t front
  before =
      ap (λ k. take k es) (sym (front_length asks i a asked))
      ∙ ap (λ (u : List Entry). take (length front) u) (sym whole)
      ∙ first_alone t front (a ∷ behind)

  one_more : suc i ≡ length (front ++ a ∷ [])
  one_more = let f = front_length asks i a asked in let l = length-append front (a ∷ []) in omega arith

  with_it : take (suc i) es ≡ entries_of t front ++ next t (entries_of t front) a.0 a.1 ∷ []
  with_it =
      ap (λ k. take k es) one_more
      ∙ ap (λ (u : List Entry). take (length (front ++ a ∷ [])) u) (sym whole_too)
      ∙ first_alone t (front ++ a ∷ []) behind
      ∙ after_append t [] front (a ∷ [])

  there : slice_get (entries_of t front ++ next t (entries_of t front) a.0 a.1 ∷ []) i ≡ Some e
  there = ap (λ (u : List Entry). slice_get u i) (sym with_it) ∙ in_front es i e stands

  pub named : e ≡ next t (take i es) a.0 a.1
  named =
      last_is (entries_of t front) (next t (entries_of t front) a.0 a.1) e i (sym (one_each t front ∙ front_length asks i a asked)) there
      ∙ ap (λ (u : List Entry). next t u a.0 a.1) (sym before)

pub one_to_one : EntriesAreOneToOne
one_to_one t asks = record { each = one_each t asks; named = named t asks; different = no_two_alike t asks }
