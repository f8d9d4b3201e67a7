-- Merged choices are counted under keys that tell them apart.
use Rattle.std.proofs.Common.{◌≡◌, ℕ, zero, suc, ◌+◌, ◌<◌, ◌≤◌, ℤ, pos, List, [], ◌∷◌, ◌++◌, map, Bool, true, false, cond, if◌then◌else◌, Option, Some, None, unwrap_or, Vec, Global, length, take, get_or, count_by, refl, sym, ap, ap₂, ◌∙◌, arith}
use Rattle.std.specs.Ordering.{int_cmp, int_eq}
use Rattle.std.specs.Cmp.Lexicographic.{slice_cmp, pointwise}
use Rattle.std.specs.Cmp.Rules.{signed_items}
use Rattle.std.specs.BTreeMap.{BTreeMap, get, is_at, Updates}
use Rattle.std.specs.Map.{lookup}
use Rattle.std.specs.List.{AllZip}
use Rattle.std.proofs.lemmas.List.Sums.{count_by_more_yes, count_by_more_no, count_by-le-length, sum_by-cons}
use Rattle.basics.specs.Booleans.{same_test}
use Rattle.frac_core.specs.Fraction.{Fraction}
use Rattle.frac_core.specs.Laws.{same_parts}
use Rattle.process_core.specs.Ready.{Name}
use Rattle.process_core.specs.Merging.{by_items}
use Rattle.process_core.proofs.Keys.{items_compared}
use Rattle.row_check.specs.declared.merging.MergedChoice.{MergedChoice}
use Rattle.row_check.specs.Keys.{label_key, entries_key, choice_key, times_of, AreCounted}
use Rattle.row_check.specs.Merging.{Sums, Keeps, equal_sums}
use Rattle.row_check.proofs.Compared.{sums_from_entries, entries_from_sums, same_sums, equal_sums_is}

-- ---- keys tell choices apart
bytes_same : (a b : Name) (e f : List ℤ) → length a ≡ length b → map (λ c. pos c) a ++ e ≡ map (λ c. pos c) b ++ f → (a ≡ b) × (e ≡ f)
bytes_same [] [] e f l h = (refl, h)
bytes_same [] (y ∷ b) e f l h = absurd (omega arith)
bytes_same (x ∷ a) [] e f l h = absurd (omega arith)
bytes_same (x ∷ a) (y ∷ b) e f l h =
    let r = bytes_same a b e f (omega arith) (let g : map (λ c. pos c) a ++ e ≡ map (λ c. pos c) b ++ f = cc in g) in
    let same : x ≡ y = cc in
    (ap₂ (λ u us. u ∷ us) same r.0, r.1)

label_same : (l m : Option Name) (e f : List ℤ) → label_key l ++ e ≡ label_key m ++ f → (l ≡ m) × (e ≡ f)
label_same None None e f h = (refl, cc)
label_same None (Some b) e f h = absurd cc
label_same (Some a) None e f h = absurd cc
label_same (Some a) (Some b) e f h =
    let l : length a ≡ length b = cc in
    let r = bytes_same a b e f l (let g : map (λ c. pos c) a ++ e ≡ map (λ c. pos c) b ++ f = cc in g) in
    (ap Some r.0, r.1)

entries_same : (a b : List (ℕ × Fraction)) → entries_key a ≡ entries_key b → a ≡ b
entries_same [] [] h = refl
entries_same [] (y ∷ b) h = absurd cc
entries_same (x ∷ a) [] h = absurd cc
entries_same ((q, x) ∷ a) ((p, y) ∷ b) h =
    let number : q ≡ p = cc in
    let num : x.num ≡ y.num = cc in
    let den : x.den ≡ y.den = cc in
    let sum = same_parts x y num den in
    let rest = entries_same a b (let g : entries_key a ≡ entries_key b = cc in g) in
    ap₂ (λ u us. u ∷ us) (ap₂ (λ u v. (u, v)) number sum) rest

-- as the sums are told apart
pub key_told : (n : ℕ) (d e : Sums) (m k : MergedChoice) → Keeps n d m → Keeps n e k → pointwise int_eq (choice_key m) (choice_key k) ≡ equal_sums d e
key_told n d e m k f g =
    same_test (pointwise int_eq (choice_key m) (choice_key k)) (equal_sums d e)
    (λ t.
    let r = label_same m.label k.label (entries_key m.sums.entries) (entries_key k.sums.entries) ((signed_items (choice_key m) (choice_key k)).0 t) in
    (equal_sums_is d e).1 (same_sums d.label e.label d.sums e.sums (sym f.label ∙ r.0 ∙ g.label) (sums_from_entries n d e m k f g (entries_same _ _ r.1))))
    (λ t.
    let same = (equal_sums_is d e).0 t in
    let label = f.label ∙ ap (λ (s : Sums). s.label) same ∙ sym g.label in
    let entries = entries_from_sums n d e m k f g (ap (λ (s : Sums). s.sums) same) in
    (signed_items (choice_key m) (choice_key k)).1 (ap₂ (λ l es. label_key l ++ entries_key es) label entries))

pub counts_told : (n : ℕ) (d : Sums) (m : MergedChoice) (ds : List Sums) (ms : List MergedChoice) → Keeps n d m → AllZip (Keeps n) ds ms →
    count_by (λ k. pointwise int_eq (choice_key m) (choice_key k)) ms ≡ count_by (equal_sums d) ds
counts_told n d m [] [] f h = refl
counts_told n d m [] (k ∷ ms) f h = absurd h
counts_told n d m (e ∷ ds) [] f h = absurd h
counts_told n d m (e ∷ ds) (k ∷ ms) f h =
    sum_by-cons (λ k. cond (pointwise int_eq (choice_key m) (choice_key k)) 1 0) k ms
    ∙ ap₂ (λ b c. cond b 1 0 + c) (key_told n d e m k f h.0) (counts_told n d m ds ms f h.1)
    ∙ sym (sum_by-cons (λ e. cond (equal_sums d e) 1 0) e ds)

pub times_told : (n : ℕ) (d : Sums) (m : MergedChoice) (ds : List Sums) (ms : List MergedChoice) (t : BTreeMap (Vec ℤ Global) ℕ) (key : Vec ℤ Global) (times : ℕ) →
    AreCounted t ms → key.items ≡ choice_key m → times ≡ times_of t key → Keeps n d m → AllZip (Keeps n) ds ms → times ≡ count_by (equal_sums d) ds
times_told n d m ds ms t key times c e h f z = h ∙ c key ∙ ap (λ xs. count_by (λ k. pointwise int_eq xs (choice_key k)) ms) e ∙ counts_told n d m ds ms f z

-- ---- one choice more
pub added : (old new : BTreeMap (Vec ℤ Global) ℕ) (key : Vec ℤ Global) (count more : ℕ) → count ≡ times_of old key → more ≡ count + 1 → Updates by_items old new key (Some more) → (q : Vec ℤ Global) →
    times_of new q ≡ (if pointwise int_eq q.items key.items then times_of old q + 1 else times_of old q)
added old new key count more c m u q =
    ap (λ o. unwrap_or o 0) (u.0 q ∙ ap (λ b. cond b (Some more) (get by_items old q)) (items_compared key.items q.items)) ∙ by_test (pointwise int_eq q.items key.items) refl
  where
    same_key : q.items ≡ key.items → times_of old key ≡ times_of old q
    same_key e = ap (λ xs. unwrap_or (lookup (is_at (λ (b : Vec ℤ Global). slice_cmp int_cmp xs b.items)) old.entries) 0) (sym e)

    by_test : (b : Bool) → pointwise int_eq q.items key.items ≡ b → unwrap_or (cond b (Some more) (get by_items old q)) 0 ≡ (if b then times_of old q + 1 else times_of old q)
    by_test true e = m ∙ ap (λ x. x + 1) (c ∙ same_key ((signed_items q.items key.items).0 e))
    by_test false e = refl

pub none_counted : (t : BTreeMap (Vec ℤ Global) ℕ) → t.entries ≡ [] → AreCounted t []
none_counted t e q = ap (λ es. unwrap_or (lookup (is_at (by_items q)) es) 0) e

pub counted_more : (old new : BTreeMap (Vec ℤ Global) ℕ) (ms : List MergedChoice) (i : ℕ) (m : MergedChoice) (key : Vec ℤ Global) → i < length ms → m ≡ get_or ms i m → key.items ≡ choice_key m → AreCounted old (take i ms) →
    ((q : Vec ℤ Global) → times_of new q ≡ (if pointwise int_eq q.items key.items then times_of old q + 1 else times_of old q)) → AreCounted new (take (i + 1) ms)
counted_more old new ms i m key l e k c h q = h q ∙ by_test (pointwise int_eq q.items key.items) refl
  where
    here : pointwise int_eq q.items (choice_key (get_or ms i m)) ≡ pointwise int_eq q.items key.items
    here = ap (λ x. pointwise int_eq q.items (choice_key x)) (sym e) ∙ ap (λ xs. pointwise int_eq q.items xs) (sym k)

    by_test : (b : Bool) → pointwise int_eq q.items key.items ≡ b → (if b then times_of old q + 1 else times_of old q) ≡ count_by (λ x. pointwise int_eq q.items (choice_key x)) (take (i + 1) ms)
    by_test true t = ap (λ x. x + 1) (c q) ∙ sym (count_by_more_yes (λ x. pointwise int_eq q.items (choice_key x)) ms i m l (here ∙ t))
    by_test false t = c q ∙ sym (count_by_more_no (λ x. pointwise int_eq q.items (choice_key x)) ms i m l (here ∙ t))

-- a count stays below the number of choices
pub count_fits : (t : BTreeMap (Vec ℤ Global) ℕ) (ms : List MergedChoice) (i : ℕ) (key : Vec ℤ Global) → AreCounted t (take i ms) → i < length ms → times_of t key ≤ i
count_fits t ms i key c l =
    let e = c key in
    let small = count_by-le-length (λ m. pointwise int_eq key.items (choice_key m)) (take i ms) in
    let short = length-take-le i ms in
    omega arith
  where
    length-take-le : {X : Type 0} (i : ℕ) (xs : List X) → length (take i xs) ≤ i
    length-take-le zero xs = omega arith
    length-take-le (suc i) [] = omega arith
    length-take-le (suc i) (x ∷ xs) = let h = length-take-le i xs in omega arith
