-- Merged choices that a program keeps are compared as the sums are.
use Rattle.std.proofs.Common.{◌≡◌, ℕ, zero, suc, ◌+◌, ◌<◌, List, [], ◌∷◌, Bool, true, false, Option, Some, None, if◌then◌else◌, length, get_or, count_by, refl, sym, ap, ◌∙◌, subst, arith, below_more}
use Rattle.std.specs.List.{sum_by}
use Rattle.std.proofs.lemmas.List.Sums.{sum_by-cons}
use Rattle.process_core.specs.Process.{EquallyOften}
use Rattle.std.specs.List.{AllZip}
use Rattle.std.specs.Ordering.{nat_cmp}
use Rattle.std.specs.Cmp.{nat_cmp_total}
use Rattle.std.specs.Cmp.Lexicographic.{pointwise_decides}
use Rattle.std.specs.BTreeMap.{is_at}
use Rattle.std.specs.Map.{lookup}
use Rattle.std.proofs.lemmas.Map.Lookups.{btree_map_from_get, exact_unsigned}
use Rattle.std.proofs.lemmas.List.{ext_get_or}
use Rattle.std.proofs.lemmas.Bool.{and_from}
use Rattle.basics.specs.Booleans.{first_true, second_true}
use Rattle.frac_core.specs.Fraction.{Fraction, nought, same_number}
use Rattle.frac_core.specs.Laws.{same_number_is}
use Rattle.process_core.specs.Ready.{Name, same_label}
use Rattle.process_core.specs.Equal.{IsEquality, same_label_is}
use Rattle.row_check.specs.declared.merging.MergedChoice.{MergedChoice}
use Rattle.row_check.specs.Merging.{Sums, equal_sums, unless_nought, Keeps}

-- ---- two lists side by side

pub zip_at : {A B : Type 0} (R : A → B → Type 0) (xs : List A) (ys : List B) (i : ℕ) (d : A) (e : B) → AllZip R xs ys → i < length ys → R (get_or xs i d) (get_or ys i e)
zip_at R [] [] i d e h k = absurd (omega arith)
zip_at R [] (y ∷ ys) i d e h k = absurd h
zip_at R (x ∷ xs) [] i d e h k = absurd h
zip_at R (x ∷ xs) (y ∷ ys) zero d e h k = h.0
zip_at R (x ∷ xs) (y ∷ ys) (suc i) d e h k = zip_at R xs ys i d e h.1 (omega arith)

pub zip_here : {A B : Type 0} (R : A → B → Type 0) (xs : List A) (ys : List B) (i : ℕ) (y : B) → AllZip R xs ys → i < length ys → y ≡ get_or ys i y → (d : A) → R (get_or xs i d) y
zip_here R xs ys i y h k e d = subst (R (get_or xs i d)) (sym e) (zip_at R xs ys i d y h k)

-- ---- sums and what is kept of them
unless_same : (x y : Fraction) → unless_nought x ≡ unless_nought y → x ≡ y
unless_same x y h = by_tests (same_number x nought) (same_number y nought) refl refl h
  where
    by_tests : (a b : Bool) → a ≡ same_number x nought → b ≡ same_number y nought → (if a then None else Some x) ≡ (if b then None else Some y) → x ≡ y
    by_tests true true p q e = (same_number_is x nought).0 (sym p) ∙ sym ((same_number_is y nought).0 (sym q))
    by_tests true false p q e = absurd cc
    by_tests false true p q e = absurd cc
    by_tests false false p q e = cc

module _ (n : ℕ) (d e : Sums) (m k : MergedChoice) (f : Keeps n d m) (g : Keeps n e k) where
  pub sums_from_entries : m.sums.entries ≡ k.sums.entries → d.sums ≡ e.sums
  sums_from_entries h =
      ext_get_or nought d.sums e.sums (f.count ∙ sym g.count)
      (λ i l. unless_same _ _ (sym (f.sums i) ∙ ap (λ es. lookup (is_at (nat_cmp i)) es) h ∙ g.sums i))

  pub entries_from_sums : d.sums ≡ e.sums → m.sums.entries ≡ k.sums.entries
  entries_from_sums h =
      btree_map_from_get nat_cmp_total m.sums k.sums f.ordered g.ordered
      (λ q. f.sums q ∙ ap (λ l. unless_nought (get_or l q nought)) h ∙ sym (g.sums q)) exact_unsigned

-- ---- the test of sums is equality

pub same_sums : (l m : Option Name) (xs ys : List Fraction) → l ≡ m → xs ≡ ys → ◌≡◌ {A = Sums} (record { label = l; sums = xs }) (record { label = m; sums = ys })
same_sums l m xs ys e f = cc

pub equal_sums_is : IsEquality equal_sums
equal_sums_is a b = (
  λ h. same_sums a.label b.label a.sums b.sums ((same_label_is a.label b.label).0 (first_true (same_label a.label b.label) _ h)) ((pointwise_decides same_number_is a.sums b.sums).0 (second_true (same_label a.label b.label) _ h)),
  λ e. and_from (same_label a.label b.label) _ ((same_label_is a.label b.label).1 (ap (λ (c : Sums). c.label) e)) ((pointwise_decides same_number_is a.sums b.sums).1 (ap (λ (c : Sums). c.sums) e)),
)

-- ---- counts
pub often_length : {X : Type 0} {xs ys : List X} → EquallyOften xs ys → length xs ≡ length ys
often_length {X} {xs} {ys} h = sym (length_is xs) ∙ h.weighs (λ x. 1) ∙ length_is ys
  where
    length_is : (xs : List X) → sum_by (λ x. 1) xs ≡ length xs
    length_is [] = refl
    length_is (x ∷ xs) = sum_by-cons (λ x. 1) x xs ∙ one_more (length_is xs)
      where
        one_more : sum_by (λ x. 1) xs ≡ length xs → 1 + sum_by (λ x. 1) xs ≡ suc (length xs)
        one_more e = omega arith

pub counts_at : (ds es : List Sums) (d : Sums) (i : ℕ) → ((k : ℕ) → k < i → count_by (equal_sums (get_or ds k d)) ds ≡ count_by (equal_sums (get_or ds k d)) es) →
    count_by (equal_sums (get_or ds i d)) ds ≡ count_by (equal_sums (get_or ds i d)) es → (k : ℕ) → k < i + 1 → count_by (equal_sums (get_or ds k d)) ds ≡ count_by (equal_sums (get_or ds k d)) es
counts_at ds es d i below here = below_more _ i below here
