-- Each name of a table is valid.
use Rattle.std.proofs.Common.{◌≡◌, ℕ, zero, suc, ◌+◌, ◌/◌, ◌%◌, ◌^◌, ◌<◌, ◌≤◌, Bool, true, false, cond, nat_lt, List, [], ◌∷◌, ◌++◌, length, take, Option, Some, None, refl, ap, ◌∙◌, arith, length-append}
use Rattle.std.specs.Prelude.{◌&&◌, ◌||◌, slice_get}
use Rattle.std.specs.List.{list_all}
use Rattle.std.proofs.lemmas.Bool.Decides.{nat_tests}
use Rattle.std.proofs.lemmas.Fmt.{length-decimal-le}
use Rattle.std.proofs.lemmas.List.{length-take-le}
use Rattle.std.proofs.lemmas.List.Sums.{count_by-le-length}
use Rattle.std.proofs.lemmas.Option.{slice_get_within}
use Rattle.prism_lex.specs.Automaton.{is_letter, is_digit}
use Rattle.prism_lex.specs.Tokens.{is_name}
use Rattle.prism_lex.specs.Words.{lookup, words}
use Rattle.name_table.specs.declared.class.NameClass.{NameClass}
use Rattle.name_table.specs.declared.class.Target.{Target}
use Rattle.name_table.specs.declared.class.Target.TheVariants.{Prism, Jani}
use Rattle.name_table.specs.declared.entry.Entry.{Entry}
use Rattle.frac_core.specs.Text.{digits_of, digits}
use Rattle.name_table.specs.Rule.{same_class, is_identifier, may_be_called, is_valid, prefix, made_name}
use Rattle.name_table.specs.Entries.{Ask, count_of, entries_of}
use Rattle.frac_core.proofs.Digits.{digits_decimal}
use Rattle.name_table.proofs.EntryLemmas.{Comes, was_kept, was_made, placed, one_each}
use Rattle.name_table.proofs.Identifiers.{identifier}
use Rattle.name_table.proofs.MadeNames.{each_class}

-- ---- digits

-- a byte of a name behind its first
abbrev goes_on : ℕ → Bool
goes_on c = is_letter c || is_digit c

digit_goes_on : (n : ℕ) → n < 10 → goes_on (48 + n) ≡ true
digit_goes_on n h = grind (arith, nat_tests)

all_push : (xs : List ℕ) (x : ℕ) → list_all goes_on xs ≡ true → goes_on x ≡ true → list_all goes_on (xs ++ x ∷ []) ≡ true
all_push [] x h k = rw k refl
all_push (y ∷ xs) x h k = go (goes_on y) (λ i. all_push xs x i k) h
  where
    go : (b : Bool) → (list_all goes_on xs ≡ true → list_all goes_on (xs ++ x ∷ []) ≡ true) → (b && list_all goes_on xs) ≡ true → (b && list_all goes_on (xs ++ x ∷ [])) ≡ true
    go true f h = f h
    go false f h = absurd cc

digits_of_go_on : (k n : ℕ) → list_all goes_on (digits_of k n) ≡ true
digits_of_go_on zero n = refl
digits_of_go_on (suc k) n = go (digits_of_go_on k (n / 10)) (nat_lt n 10) refl
  where
    go : list_all goes_on (digits_of k (n / 10)) ≡ true → (t : Bool) → nat_lt n 10 ≡ t → list_all goes_on (cond t ((48 + n) ∷ []) (digits_of k (n / 10) ++ (48 + n % 10) ∷ [])) ≡ true
    go i true e = all_push [] (48 + n) refl (digit_goes_on n (grind (arith, nat_tests)))
    go i false e = all_push (digits_of k (n / 10)) (48 + n % 10) i (digit_goes_on (n % 10) (omega arith))

digits_go_on : (n : ℕ) → list_all goes_on (digits n) ≡ true
unfolding digits
digits_go_on n = digits_of_go_on (suc n) n

digits_short : (n : ℕ) → n < 2 ^ 64 → length (digits n) ≤ 20
digits_short n h = let e = ap length (digits_decimal n (omega (arith, h))) in let l = length-decimal-le 20 n (omega arith) (omega arith) h in omega arith

-- ---- made names, however many there are

pub made_named : (c : NameClass) (n : ℕ) → is_name (made_name c n) ≡ true
made_named c n = let d = digits_go_on n in each_class (λ k. is_name (made_name k n) ≡ true) d d d d d d d d c

pub made_free : (c : NameClass) (n : ℕ) → lookup (made_name c n) words ≡ None
unfolding words
made_free c n = each_class (λ d. lookup (made_name d n) words ≡ None) refl refl refl refl refl refl refl refl c

prefix_short : (c : NameClass) → length (prefix c) ≤ 7
prefix_short c = each_class (λ d. length (prefix d) ≤ 7) (omega arith) (omega arith) (omega arith) (omega arith) (omega arith) (omega arith) (omega arith) (omega arith) c

some_prefix : (c : NameClass) → 0 < length (prefix c)
some_prefix c = each_class (λ d. 0 < length (prefix d)) (omega arith) (omega arith) (omega arith) (omega arith) (omega arith) (omega arith) (omega arith) (omega arith) c

pub made_may : (c : NameClass) (n : ℕ) → may_be_called c (made_name c n) ≡ true
made_may c n = each_class (λ d. may_be_called d (made_name d n) ≡ true) refl refl refl refl refl refl refl refl c

made_valid : (t : Target) (c : NameClass) (n : ℕ) → n < 2 ^ 64 → is_valid t c (made_name c n) ≡ true
made_valid Prism c n h =
    let l = length-append (prefix c) (digits n) in
    let p = prefix_short c in
    let d = digits_short n h in
    let i : is_identifier (made_name c n) ≡ true = identifier (made_name c n) (record { name = made_named c n; free = made_free c n; short = omega arith }) in
    rw (i, made_may c n) refl
made_valid Jani c n h =
    let l = length-append (prefix c) (digits n) in
    let p = some_prefix c in
    above (length (made_name c n)) (omega arith)
  where
    above : (m : ℕ) → 0 < m → nat_lt 0 m ≡ true
    above m k = grind (arith, nat_tests)

-- ---- entries

valid_by : (t : Target) (es : List Entry) (c : NameClass) (o : Option (List ℕ)) (e : Entry) → length es < 2 ^ 64 → Comes t es c o e → is_valid t e.class e.name ≡ true
valid_by t es c o e l (was_kept x p k h) = ap (λ (u : Entry). is_valid t u.class u.name) h ∙ k.valid
valid_by t es c o e l (was_made h) =
    let n = count_by-le-length (λ (u : Entry). same_class u.class c) es in
    ap (λ (u : Entry). is_valid t u.class u.name) h ∙ made_valid t c (count_of c es) (omega arith)

pub all_are_valid : (t : Target) (asks : List Ask) (i : ℕ) (e : Entry) → length asks < 2 ^ 64 → slice_get (entries_of t asks) i ≡ Some e → is_valid t e.class e.name ≡ true
all_are_valid t asks i e l h =
    let p = placed t asks i e h in
    let w = slice_get_within (entries_of t asks) i e h in
    let n = one_each t asks in
    let m = length-take-le i (entries_of t asks) (omega arith) in
    valid_by t (take i (entries_of t asks)) p.asked.0 p.asked.1 e (omega arith) p.comes
