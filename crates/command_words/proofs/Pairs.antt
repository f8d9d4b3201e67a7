-- Numbers and pairs of numbers, as words write them.
use Rattle.std.proofs.Common.{◌≡◌, ◌≢◌, ℕ, ◌-◌, ◌^◌, ◌<◌, List, [], ◌∷◌, ◌++◌, map, Option, Some, None, Result, Ok, Err, refl, sym, ap, subst, ◌∙◌, arith, append_assoc, append-nil}
use Rattle.std.specs.Fmt.{decimal}
use Rattle.std.specs.List.{AllByRecursion}
use Rattle.std.specs.Str.Parse.{ParsesUnsigned, AllDigits, digits_value}
use Rattle.std.proofs.lemmas.Fmt.{parse-decimal, digits_decimal}
use Rattle.std.proofs.lemmas.Str.Parse.{IsNumeralModel, numerals_by_value, tells_digits, not_in_digits}
use Rattle.decimal_json.specs.Text.{with_commas, behind_commas}
use Rattle.command_words.specs.Numbers.{IsNumber, IsPairs, IsSmall, numbers_of, IsWithout, IsPartition, IsFront}
use Rattle.command_words.proofs.Splits.{first_split, not_without}

-- ---- one number
module _ {E : Type 0} (most : ℕ) (w : List ℕ) (r : Result ℕ E) (bound : most < 2 ^ 64) (h : ParsesUnsigned 64 10 w r) where
  parsed : (n : ℕ) → IsNumber most w n → r ≡ Ok n
  parsed n k = let b : n < 2 ^ 64 = omega (arith, k.0) in parse-decimal 64 n w r b b k.1 h

  pub not_parsed : (e : E) → r ≡ Err e → (n : ℕ) → IsNumber most w n → ⊥
  not_parsed e f n k = let g : ◌≡◌ {A = Result ℕ E} (Err e) (Ok n) = sym f ∙ parsed n k in cc

  pub past_most : (m : ℕ) → r ≡ Ok m → most < m → (n : ℕ) → IsNumber most w n → ⊥
  past_most m f b n k = let g : ◌≡◌ {A = Result ℕ E} (Ok m) (Ok n) = sym f ∙ parsed n k in let e : m ≡ n = cc in omega (arith, k.0)

  pub other_text : (m : ℕ) → r ≡ Ok m → decimal m ≢ w → (n : ℕ) → IsNumber most w n → ⊥
  other_text m f b n k = let g : ◌≡◌ {A = Result ℕ E} (Ok m) (Ok n) = sym f ∙ parsed n k in let e : m ≡ n = cc in b (ap decimal e ∙ sym k.1)

own : IsNumeralModel (AllDigits 10) (digits_value 10)
own = numerals_by_value (AllDigits 10) tells_digits

pub no_comma_in : (n : ℕ) → n < 2 ^ 32 → IsWithout 44 (decimal n)
no_comma_in n h i l = not_in_digits own (decimal n) 44 (digits_decimal own n (let m : n < 2 ^ 64 = omega (arith, h) in m)) (λ r. omega (arith, r)) i l

-- ---- the first of some texts with commas between them
abbrev pub IsRest : Option (List ℕ) → List (List ℕ) → Type 0
IsRest None ts = ts ≡ []
IsRest (Some back) ts = (ts ≢ []) × (back ≡ with_commas ts)

pub partition_of : (w front : List ℕ) (r : Option (List ℕ)) (t : List ℕ) (ts : List (List ℕ)) → IsPartition w front r → IsWithout 44 t → w ≡ with_commas (t ∷ ts) → (front ≡ t) × IsRest r ts
partition_of w front None t [] p h e = (sym p.0 ∙ e ∙ append-nil t, refl)
partition_of w front None t (u ∷ us) p h e = absurd (not_without 44 t (u ++ behind_commas us) (subst (IsWithout 44) (sym p.0 ∙ e) p.1))
partition_of w front (Some back) t [] p h e = absurd (not_without 44 front back (subst (IsWithout 44) (sym (append-nil t) ∙ sym e ∙ p.0) h))
partition_of w front (Some back) t (u ∷ us) p h e =
    let s = first_split 44 front t back (u ++ behind_commas us) (sym p.0 ∙ e) p.1 h in
    (s.0, ((λ z. cc), s.1))

-- ---- pairs
pub first_pair : (w : List ℕ) (ps : List (ℕ × ℕ)) → IsPairs w ps → (p : ℕ × ℕ) × (qs : List (ℕ × ℕ)) × (ps ≡ p ∷ qs) × IsSmall p × AllByRecursion IsSmall qs × (w ≡ with_commas (decimal p.0 ∷ decimal p.1 ∷ map decimal (numbers_of qs)))
first_pair w [] h = absurd (h.some refl)
first_pair w (p ∷ qs) h = (p, qs, refl, h.small.0, h.small.1, h.text)

pub no_comma : (w front : List ℕ) → IsPartition w front None → (ps : List (ℕ × ℕ)) → IsPairs w ps → ⊥
no_comma w front p ps h =
    let k = first_pair w ps h in
    let z : decimal k.0.1 ∷ map decimal (numbers_of k.1) ≡ [] = (partition_of w front None (decimal k.0.0) (decimal k.0.1 ∷ map decimal (numbers_of k.1)) p (no_comma_in k.0.0 k.3.0) k.5).1 in cc

module _ (w front behind second : List ℕ) (r : Option (List ℕ)) (p : IsPartition w front (Some behind)) (q : IsPartition behind second r) where
  -- what both parts then are
  pub both_parts : (ps : List (ℕ × ℕ)) → IsPairs w ps
      → (f : ℕ × ℕ) × (qs : List (ℕ × ℕ)) × IsSmall f × AllByRecursion IsSmall qs × (front ≡ decimal f.0) × (second ≡ decimal f.1) × IsRest r (map decimal (numbers_of qs))
  both_parts ps h =
      let k = first_pair w ps h in
      let a = partition_of w front (Some behind) (decimal k.0.0) (decimal k.0.1 ∷ map decimal (numbers_of k.1)) p (no_comma_in k.0.0 k.3.0) k.5 in
      let b = partition_of behind second r (decimal k.0.1) (map decimal (numbers_of k.1)) q (no_comma_in k.0.1 k.3.1) a.1.1 in
      (k.0, k.1, k.3, k.4, a.0, b.0, b.1)

  pub no_first : (most : ℕ) → most ≡ 2 ^ 32 - 1 → ((n : ℕ) → IsNumber most front n → ⊥) → (ps : List (ℕ × ℕ)) → IsPairs w ps → ⊥
  no_first most m none ps h = let k = both_parts ps h in none k.0.0 (omega (arith, k.2.0), k.4)

  pub no_second : (most : ℕ) → most ≡ 2 ^ 32 - 1 → ((n : ℕ) → IsNumber most second n → ⊥) → (ps : List (ℕ × ℕ)) → IsPairs w ps → ⊥
  no_second most m none ps h = let k = both_parts ps h in none k.0.1 (omega (arith, k.2.1), k.5)

-- what a loop keeps: the pairs of the text are those so far and those of the rest
pub record AreRead (text : List ℕ) (done : List (ℕ × ℕ)) (rest : List ℕ) : Type 0 where
  pub on : (ps : List (ℕ × ℕ)) → IsPairs rest ps → IsPairs text (done ++ ps)
  pub back : (ps : List (ℕ × ℕ)) → IsPairs text ps → (qs : List (ℕ × ℕ)) × IsPairs rest qs

more_pairs : (rest more : List ℕ) (p : ℕ × ℕ) → IsFront rest p (Some more) → (ps : List (ℕ × ℕ)) → IsPairs more ps → IsPairs rest (p ∷ ps)
more_pairs rest more p f [] h = absurd (h.some refl)
more_pairs rest more p f (q ∷ qs) h = record {
  some = λ e. cc;
  small = (f.0, h.small);
  text = f.1 ∙ ap (λ t. decimal p.0 ++ 44 ∷ (decimal p.1 ++ 44 ∷ t)) h.text;
}

fewer_pairs : (rest more : List ℕ) (p : ℕ × ℕ) → IsFront rest p (Some more) → (ps : List (ℕ × ℕ)) → IsPairs rest ps → (qs : List (ℕ × ℕ)) × IsPairs more qs
fewer_pairs rest more p f ps h =
    let k = both_parts rest (decimal p.0) (decimal p.1 ++ 44 ∷ more) (decimal p.1) (Some more) (f.1, no_comma_in p.0 f.0.0) (refl, no_comma_in p.1 f.0.1) ps h in
    (k.1, record { some = λ e. k.6.0 (ap (λ qs. map decimal (numbers_of qs)) e); small = k.3; text = k.6.1 })

pub more_read : (text : List ℕ) (done : List (ℕ × ℕ)) (rest : List ℕ) (p : ℕ × ℕ) (more : List ℕ) → AreRead text done rest → IsFront rest p (Some more) → AreRead text (done ++ p ∷ []) more
more_read text done rest p more a f = record {
  on = λ ps h. subst (IsPairs text) (sym (append_assoc done (p ∷ []) ps)) (a.on (p ∷ ps) (more_pairs rest more p f ps h));
  back = λ ps h. let k = a.back ps h in fewer_pairs rest more p f k.0 k.1;
}
