-- What the fields of a table are with one entry more.
use Rattle.std.proofs.Common.{◌≡◌, ℕ, ◌+◌, Bool, true, false, cond, List, [], ◌∷◌, ◌++◌, Option, Some, refl, sym, ap, ◌∙◌, arith}
use Rattle.std.specs.Prelude.{◌&&◌, ◌||◌, bytes_eq}
use Rattle.std.proofs.lemmas.List.{map-append}
use Rattle.std.proofs.lemmas.List.Folds.{list_any-append}
use Rattle.basics.specs.Texts.{bytes_eq_comm}
use Rattle.name_table.specs.declared.class.NameClass.{NameClass}
use Rattle.name_table.specs.declared.class.Target.{Target}
use Rattle.name_table.specs.declared.class.Space.{Space}
use Rattle.name_table.specs.declared.entry.Entry.{Entry}
use Rattle.name_table.specs.declared.counts.Counts.{Counts}
use Rattle.name_table.specs.declared.taken.Taken.{Taken}
use Rattle.name_table.specs.Rule.{same_class, same_space, space}
use Rattle.name_table.specs.Entries.{Ask, count_of, is_taken, kept_entry, made_entry, next, entries_of, ask_of, asks_of}
use Rattle.name_table.specs.State.{has_name, count_in, IsTable}
use Rattle.name_table.proofs.EntryLemmas.{after_append, count_push, Comes, was_kept, was_made, comes}

-- the ask that an entry itself gives leads to it
same_next : (t : Target) (es : List Entry) (c : NameClass) (o : Option (List ℕ)) (e : Entry) → Comes t es c o e → next t es (ask_of e).0 (ask_of e).1 ≡ e
same_next t es c o e (was_kept x p k h) = ap (λ (u : Entry). next t es (ask_of u).0 (ask_of u).1) h ∙ kept ∙ sym h
  where
    kept : next t es c (Some x) ≡ kept_entry c x
    kept = ap (λ (b : Bool). cond b (kept_entry c x) (made_entry es c)) k.is
same_next t es c o e (was_made h) = ap (λ (u : Entry). next t es (ask_of u).0 (ask_of u).1) h ∙ sym h

made_more : (t : Target) (es : List Entry) (c : NameClass) (o : Option (List ℕ)) (e : Entry) → e ≡ next t es c o → entries_of t (asks_of es) ≡ es → entries_of t (asks_of (es ++ e ∷ [])) ≡ es ++ e ∷ []
made_more t es c o e h m =
    ap (λ (u : List Ask). entries_of t u) (map-append ask_of es (e ∷ []))
    ∙ after_append t [] (asks_of es) (ask_of e ∷ [])
    ∙ ap (λ (u : List Entry). u ++ next t u (ask_of e).0 (ask_of e).1 ∷ []) m
    ∙ ap (λ (u : Entry). es ++ u ∷ []) (same_next t es c o e (comes t es c o e h))

or_turned : (a b c : Bool) → cond (a && b) true c ≡ (c || ((a && b) || false))
or_turned true true true = refl
or_turned true true false = refl
or_turned true false true = refl
or_turned true false false = refl
or_turned false b true = refl
or_turned false b false = refl

taken_more : (t : Target) (es : List Entry) (e : Entry) (n : List ℕ) (s : Space) (x : List ℕ) → n ≡ e.name → cond (same_space (space t e.class) s && bytes_eq n x) true (is_taken t es s x) ≡ is_taken t (es ++ e ∷ []) s x
taken_more t es e n s x h =
    ap (λ (b : Bool). cond (same_space (space t e.class) s && b) true (is_taken t es s x)) (ap (λ (u : List ℕ). bytes_eq u x) h ∙ bytes_eq_comm e.name x)
    ∙ or_turned (same_space (space t e.class) s) (bytes_eq x e.name) (is_taken t es s x)
    ∙ sym (list_any-append (λ (u : Entry). same_space (space t u.class) s && bytes_eq x u.name) es (e ∷ []))

count_more : (c : NameClass) (es : List Entry) (e : Entry) → count_of c es + cond (same_class e.class c) 1 0 ≡ count_of c (es ++ e ∷ [])
count_more c es e =
    let h = count_push (λ (u : Entry). same_class u.class c) es (e ∷ []) in
    omega arith

next_class : (t : Target) (es : List Entry) (c : NameClass) (o : Option (List ℕ)) (e : Entry) → Comes t es c o e → e.class ≡ c
next_class t es c o e (was_kept x p k h) = ap (λ (u : Entry). u.class) h
next_class t es c o e (was_made h) = ap (λ (u : Entry). u.class) h

-- the fields with one entry more, from what the calls ensure
pub one_more : (t : Target) (es fs : List Entry) (c : NameClass) (o : Option (List ℕ)) (e : Entry) (n : List ℕ) (r : Space) (taken all : Taken) (counts more : Counts) →
    IsTable t es taken counts → e ≡ next t es c o → fs ≡ es ++ e ∷ [] → n ≡ e.name → r ≡ space t c →
    ((s : Space) (x : List ℕ) → has_name all s x ≡ cond (same_space r s && bytes_eq n x) true (has_name taken s x)) →
    ((d : NameClass) → count_in more d ≡ count_in counts d + cond (same_class c d) 1 0) →
    IsTable t fs all more
one_more t es fs c o e n r taken all counts more i h f k p q v =
    let d = next_class t es c o e (comes t es c o e h) in
    record {
      made = ap (λ (u : List Entry). entries_of t (asks_of u)) f ∙ made_more t es c o e h i.made ∙ sym f;
      names = λ s x.
          q s x
          ∙ ap (λ (b : Bool). cond (same_space r s && bytes_eq n x) true b) (i.names s x)
          ∙ ap (λ (u : Space). cond (same_space u s && bytes_eq n x) true (is_taken t es s x)) (p ∙ ap (space t) (sym d))
          ∙ taken_more t es e n s x k
          ∙ ap (λ (u : List Entry). is_taken t u s x) (sym f);
      numbers = λ b.
          v b
          ∙ ap (λ (m : ℕ). m + cond (same_class c b) 1 0) (i.numbers b)
          ∙ ap (λ (u : NameClass). count_of b es + cond (same_class u b) 1 0) (sym d)
          ∙ count_more b es e
          ∙ ap (count_of b) (sym f);
    }
