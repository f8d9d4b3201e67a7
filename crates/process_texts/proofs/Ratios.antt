-- A fraction from a sign, a size and a denominator, divided by what they have in common.
use Rattle.std.proofs.Common.{◌≡◌, ◌⊎◌, ℕ, zero, suc, ◌*◌, ◌/◌, ◌^◌, ◌<◌, ◌≤◌, ◌&&◌, ℤ, pos, neg_ℤ, nat_abs, nat_lt, Bool, true, false, refl, sym, ap, ap₂, subst, ◌∙◌, arith, inl, inr, Result, Ok, Err, if◌then◌else◌}
use Rattle.std.specs.Ordering.{int_eq}
use Rattle.std.proofs.lemmas.Bool.Decides.{Decides-int_eq}
use Rattle.std.proofs.Common.{pos_of_ne-zero}
use Rattle.std.proofs.Math.Bool.{or-true}
use Rattle.std.proofs.Math.Nat.{mul-div_cancel'}
use Rattle.std.specs.Int.{◌∣◌}
use Rattle.frac_core.specs.Gcd.{gcd, gcd_pos, gcd_lem}
use Rattle.frac_core.specs.Fraction.{Fraction, fraction, signed, shrunk, is_wide, quotient}
use Rattle.frac_core.specs.Laws.{fraction_self}
use Rattle.frac_core.specs.Results.{narrow, from_narrow, narrow_wide_den, narrow_wide_num, wide_where}
use Rattle.frac_core.specs.declared.fraction.FracFail.{FracFail}
use Rattle.frac_core.specs.declared.fraction.FracFail.TheVariants as F
use Rattle.std.proofs.Common.{◌≢◌, min, ◌||◌, List, [], ◌∷◌, length, Option, Some, None, ltb-true, lt-ltb, le-leb}
use Rattle.std.proofs.lemmas.Bool.{lt-leb}
use Rattle.std.specs.List.{list_all}
use Rattle.std.specs.Char.{is_ascii_digit, digit_value}
use Rattle.std.specs.Str.Parse.{IsNumeral, AllDigits, digits_value}
use Rattle.std.proofs.lemmas.Bool.Decides.{nat_tests}
use Rattle.frac_core.proofs.Readings.{digit_is}
use Rattle.frac_core.proofs.Parts.{shared_pos}
use Rattle.basics.specs.Booleans.{first_true, second_true}
use Rattle.op_trees.specs.declared.tree.Value.{Value}
use Rattle.op_trees.specs.declared.tree.Value.TheVariants as V
use Rattle.process_texts.specs.Forms.{digits_of, is_numeral}
use Rattle.process_texts.specs.Given.{IsRatio, is_long, is_wide_value}

pub size_of : (m : Bool) (n : ℕ) → nat_abs (signed m n) ≡ n
size_of false n = refl
size_of true zero = refl
size_of true (suc n) = refl

shrunk_signed : (m : Bool) (n g : ℕ) → 0 < g → shrunk (signed m n) g ≡ signed m (n / g)
shrunk_signed false n g p = refl
shrunk_signed true zero g p = let z : 0 / g ≡ 0 = omega arith in ap pos z ∙ sym (ap (λ k. neg_ℤ (pos k)) z)
shrunk_signed true (suc n) g p = refl

pub num_is : (m : Bool) (n d g : ℕ) → 0 < d → g ≡ gcd n d → (fraction (signed m n) d).num ≡ signed m (n / g)
unfolding fraction
num_is m n zero g p e = absurd (omega arith)
num_is m n (suc d) g p e =
    ap (λ k. shrunk (signed m n) (gcd k (suc d))) (size_of m n) ∙ ap (shrunk (signed m n)) (sym e) ∙ shrunk_signed m n g (shared_pos n (suc d) g p e)

pub den_is : (m : Bool) (n d g : ℕ) → 0 < d → g ≡ gcd n d → (fraction (signed m n) d).den ≡ d / g
unfolding fraction
den_is m n zero g p e = absurd (omega arith)
den_is m n (suc d) g p e = ap (λ k. suc d / gcd k (suc d)) (size_of m n) ∙ ap (λ k. suc d / k) (sym e)

pub wide_top : (m : Bool) (n d g : ℕ) → 0 < d → g ≡ gcd n d → 2 ^ 62 ≤ n / g → Err F.Wide ≡ narrow (fraction (signed m n) d)
wide_top m n d g p e h = sym (narrow_wide_num (fraction (signed m n) d) (subst (λ k. 2 ^ 62 ≤ k) (sym (ap nat_abs (num_is m n d g p e) ∙ size_of m (n / g))) h))

pub wide_below : (m : Bool) (n d g : ℕ) → 0 < d → g ≡ gcd n d → 2 ^ 62 ≤ d / g → Err F.Wide ≡ narrow (fraction (signed m n) d)
wide_below m n d g p e h = sym (narrow_wide_den (fraction (signed m n) d) (subst (λ k. 2 ^ 62 ≤ k) (sym (den_is m n d g p e)) h))

same_ratio : (m : Bool) (n d g : ℕ) → 0 < d → g ≡ gcd n d → fraction (signed m (n / g)) (d / g) ≡ fraction (signed m n) d
same_ratio m n d g p e = ap₂ fraction (sym (num_is m n d g p e)) (sym (den_is m n d g p e)) ∙ fraction_self (fraction (signed m n) d)

pub answered : (m : Bool) (n d g : ℕ) (top below : ℤ) → 0 < d → g ≡ gcd n d → top ≡ signed m (n / g) → below ≡ pos (d / g) → 0 < d / g →
    (if int_eq below (pos 0) then Err F.ZeroDivisor else narrow (quotient top below)) ≡ narrow (fraction (signed m n) d)
answered m n d g top below p e t b q =
    ap₂ (λ (x y : ℤ). if int_eq y (pos 0) then Err F.ZeroDivisor else narrow (quotient x y)) t b
    ∙ ap (λ z. if z then Err F.ZeroDivisor else narrow (fraction (signed m (n / g)) (d / g))) (not_nought (d / g) q)
    ∙ ap narrow (same_ratio m n d g p e)
  where
    not_nought : (k : ℕ) → 0 < k → int_eq (pos k) (pos 0) ≡ false
    not_nought zero h = absurd (omega arith)
    not_nought (suc k) h = by_test (int_eq (pos (suc k)) (pos 0)) refl
      where
        by_test : (b : Bool) → int_eq (pos (suc k)) (pos 0) ≡ b → int_eq (pos (suc k)) (pos 0) ≡ false
        by_test false e = e
        by_test true e = let no : pos (suc k) ≡ pos 0 = (Decides-int_eq (pos (suc k)) (pos 0)).0 e in absurd cc

-- ---- n/m from two texts of digits
pub record Digits (ds : List ℕ) (n : ℕ) : Type 0 where
  pub numeral : IsNumeral 10 ds
  pub held : n ≡ min (digits_value 10 ds) (10 ^ 38)

digit_low : (c : ℕ) → is_ascii_digit c ≡ true → digit_value c < 10
digit_low c h = grind (arith, nat_tests)

all_digits : (ds : List ℕ) → list_all is_ascii_digit ds ≡ true → AllDigits 10 ds
all_digits [] h = tt
all_digits (c ∷ ds) h = (digit_low c (first_true (is_ascii_digit c) _ h), all_digits ds (second_true (is_ascii_digit c) _ h))

digits_all : (ds : List ℕ) → AllDigits 10 ds → list_all is_ascii_digit ds ≡ true
digits_all [] h = refl
digits_all (c ∷ ds) h = ap₂ (λ a b. a && b) (digit_is c h.0) (digits_all ds h.1)

pub from_some : (ds : List ℕ) (n : ℕ) → digits_of ds ≡ Some n → Digits ds n
from_some ds n h = by_test (is_numeral ds) refl h
  where
    by_test : (b : Bool) → b ≡ is_numeral ds → (if b then Some (min (digits_value 10 ds) (10 ^ 38)) else None) ≡ Some n → Digits ds n
    by_test false e k = absurd cc
    by_test true e k = record {
      numeral = (ltb-true 0 (length ds) (first_true (nat_lt 0 (length ds)) _ (sym e)), all_digits ds (second_true (nat_lt 0 (length ds)) _ (sym e)));
      held = let f : min (digits_value 10 ds) (10 ^ 38) ≡ n = cc in sym f;
    }

pub numeral_true : (ds : List ℕ) → IsNumeral 10 ds → is_numeral ds ≡ true
numeral_true ds k = ap₂ (λ a b. a && b) (lt-ltb 0 (length ds) k.0) (digits_all ds k.1)

pub from_none : (ds : List ℕ) → digits_of ds ≡ None → IsNumeral 10 ds → ⊥
from_none ds h k =
    let e = numeral_true ds k in
    let f : ◌≡◌ {A = Option ℕ} (Some (min (digits_value 10 ds) (10 ^ 38))) None = sym (ap (λ b. if b then Some (min (digits_value 10 ds) (10 ^ 38)) else None) e) ∙ h in cc

long_value : (ds : List ℕ) (n : ℕ) → Digits ds n → 10 ^ 38 ≤ n → is_long ds ≡ true
long_value ds n h k = let e = h.held in le-leb (10 ^ 38) (digits_value 10 ds) (let l : 10 ^ 38 ≤ digits_value 10 ds = omega (arith, e) in l)

short_value : (ds : List ℕ) (n : ℕ) → Digits ds n → n < 10 ^ 38 → (n ≡ digits_value 10 ds) × (is_long ds ≡ false)
short_value ds n h k =
    let e = h.held in
    let l : n ≡ digits_value 10 ds = omega (arith, e) in
    (l, lt-leb (10 ^ 38) (digits_value 10 ds) (subst (λ x. x < 10 ^ 38) l k))

module _ (m : Bool) (top below : List ℕ) (n d : ℕ) (t : Digits top n) (b : Digits below d) where
  nonzero : d ≢ 0 → digits_value 10 below ≢ 0
  nonzero h z = h (let e = b.held in e ∙ ap (λ x. min x (10 ^ 38)) z ∙ zero_min)
    where
      zero_min : min 0 (10 ^ 38) ≡ 0
      zero_min = refl

  its_ratio : d ≢ 0 → IsRatio m top below (V.Number (fraction (signed m (digits_value 10 top)) (digits_value 10 below))) (is_long top || is_long below)
  its_ratio h = record { top = t.numeral; below = b.numeral; nonzero = nonzero h; value = refl; limit = refl }

  pub long_ratio : d ≢ 0 → (10 ^ 38 ≤ n) ⊎ (10 ^ 38 ≤ d) → (v : Value) × (past : Bool) × IsRatio m top below v past × ((is_wide_value v || past) ≡ true)
  long_ratio h k = (V.Number (fraction (signed m (digits_value 10 top)) (digits_value 10 below)), is_long top || is_long below, its_ratio h, ap (λ x. is_wide (fraction (signed m (digits_value 10 top)) (digits_value 10 below)) || x) (by_case k) ∙ or-true _)
    where
      by_case : (10 ^ 38 ≤ n) ⊎ (10 ^ 38 ≤ d) → (is_long top || is_long below) ≡ true
      by_case (inl l) = ap (λ x. x || is_long below) (long_value top n t l)
      by_case (inr l) = ap (λ x. is_long top || x) (long_value below d b l) ∙ or-true (is_long top)

  short : n < 10 ^ 38 → d < 10 ^ 38 → false ≡ (is_long top || is_long below)
  short p q = sym (ap₂ (λ x y. x || y) (short_value top n t p).1 (short_value below d b q).1)

  exact : n < 10 ^ 38 → d < 10 ^ 38 → fraction (signed m n) d ≡ fraction (signed m (digits_value 10 top)) (digits_value 10 below)
  exact p q = ap₂ (λ x y. fraction (signed m x) y) (short_value top n t p).0 (short_value below d b q).0

  pub good_ratio : d ≢ 0 → n < 10 ^ 38 → d < 10 ^ 38 → (x : Fraction) → narrow (fraction (signed m n) d) ≡ Ok x → IsRatio m top below (V.Number x) false × (is_wide x ≡ false)
  good_ratio h p q x k =
      let f = from_narrow (fraction (signed m n) d) x k in
      (record { top = t.numeral; below = b.numeral; nonzero = nonzero h; value = ap V.Number (f.0 ∙ exact p q); limit = short p q }, f.1)

  pub wide_ratio : d ≢ 0 → n < 10 ^ 38 → d < 10 ^ 38 → (f : FracFail) → narrow (fraction (signed m n) d) ≡ Err f → (v : Value) × (past : Bool) × IsRatio m top below v past × ((is_wide_value v || past) ≡ true)
  wide_ratio h p q f k = (
    V.Number (fraction (signed m (digits_value 10 top)) (digits_value 10 below)),
    is_long top || is_long below,
    its_ratio h,
    ap (λ x. x || (is_long top || is_long below)) (ap is_wide (sym (exact p q)) ∙ wide_where (fraction (signed m n) d) f k),
  )
