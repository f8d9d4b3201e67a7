-- How the fields of a code's fraction, and the sizes that code computes with, stand to the fraction that contracts see.
use Rattle.std.specs.Prelude.{◌≡◌, ℕ, zero, suc, Bool, true, false, ◌*◌, ◌/◌, ◌<◌, ◌≤◌, ◌^◌, ℤ, pos, negsuc, ◌*ℤ◌, neg_ℤ, nat_abs, nat_lt, int_lt, Ok, Err}
use Rattle.std.specs.Int.{◌∣◌}
use Rattle.std.specs.Ordering.{int_eq}
use Rattle.std.proofs.lemmas.Int.{ints}
use Rattle.std.proofs.Common.{arith, refl, sym, ap, ap₂, subst, subst₂, ◌∙◌, ◌-ℤ◌, mul-pos, lt-ltb, le-ltb}
use Rattle.std.proofs.Math.Nat.{mul-div_cancel'}
use Rattle.frac_core.specs.Gcd.{gcd, gcd_lem, gcd_pos, gcd-div}
use Rattle.frac_core.specs.Fraction.{Fraction, fraction, signed, shrunk, quotient_pos, is_lowest_from, IsKept}
use Rattle.frac_core.specs.Laws.{fraction_self, fraction_parts, num_kept, den_kept}
use Rattle.frac_core.specs.Results.{narrow, narrow_small, narrow_wide_num, narrow_wide_den}
use Rattle.frac_core.specs.declared.fraction.FracFail.TheVariants.{Wide}

pub nat_abs-signed : (b : Bool) (n : ℕ) → nat_abs (signed b n) ≡ n
nat_abs-signed true zero = refl
nat_abs-signed true (suc n) = refl
nat_abs-signed false n = refl

-- a sign, a size and a denominator without a common factor are the parts of their fraction
signed_parts : (b : Bool) (n d : ℕ) → 0 < d → gcd n d ≡ 1 → ((fraction (signed b n) d).num ≡ signed b n) × ((fraction (signed b n) d).den ≡ d)
signed_parts b n d p h = fraction_parts (signed b n) d (is_lowest_from (signed b n) d p (ap (λ k. gcd k d) (nat_abs-signed b n) ∙ h))

pub lowest_small : (b : Bool) (n d : ℕ) (z w : ℤ) → 0 < d → gcd n d ≡ 1 → n < 2 ^ 62 → d < 2 ^ 62 → z ≡ signed b n → w ≡ pos d → Ok (fraction z (nat_abs w)) ≡ narrow (fraction (signed b n) d)
lowest_small b n d z w p h q r k l =
    let e = signed_parts b n d p h in
    let size = ap nat_abs e.0 ∙ nat_abs-signed b n in
    ap₂ (λ z w. Ok (fraction z (nat_abs w))) k l
    ∙ sym (narrow_small (fraction (signed b n) d) (omega arith) (omega arith))

pub lowest_wide_size : (b : Bool) (n d : ℕ) → 0 < d → gcd n d ≡ 1 → 2 ^ 62 ≤ n → Err Wide ≡ narrow (fraction (signed b n) d)
lowest_wide_size b n d p h q =
    let e = signed_parts b n d p h in
    let size = ap nat_abs e.0 ∙ nat_abs-signed b n in
    sym (narrow_wide_num (fraction (signed b n) d) (omega arith))

pub lowest_wide_den : (b : Bool) (n d : ℕ) → 0 < d → gcd n d ≡ 1 → 2 ^ 62 ≤ d → Err Wide ≡ narrow (fraction (signed b n) d)
lowest_wide_den b n d p h q =
    let e = signed_parts b n d p h in
    sym (narrow_wide_den (fraction (signed b n) d) (omega arith))

-- parts of code that are those of the fraction are kept
pub kept_parts : (x : Fraction) (z w : ℤ) → z ≡ x.num → w ≡ pos x.den → nat_abs x.num < 2 ^ 62 → x.den < 2 ^ 62 → IsKept z w
kept_parts x z w e h p q = subst₂ IsKept (sym e) (sym h) (record { lowest = x.lowest; positive = refl; num_small = p; den_small = q })

-- the fields behind a fraction that contracts see
pub num_behind : (x : Fraction) (n d : ℤ) → IsKept n d → fraction n (nat_abs d) ≡ x → n ≡ x.num
num_behind x n d h e = sym (num_kept h) ∙ ap (λ (y : Fraction). y.num) e

pub den_behind : (x : Fraction) (n d : ℤ) → IsKept n d → fraction n (nat_abs d) ≡ x → d ≡ pos x.den
den_behind x n d h e = sym (den_kept h) ∙ ap (λ (y : Fraction). pos y.den) e

int_eq_pos : (n : ℕ) → 0 < n → int_eq (pos n) (pos 0) ≡ false
int_eq_pos n p = rw (le-ltb n 0 (omega arith), lt-ltb 0 n p) refl

int_eq-neg_pos : (n : ℕ) → 0 < n → int_eq (neg_ℤ (pos n)) (pos 0) ≡ false
int_eq-neg_pos zero p = absurd (omega arith)
int_eq-neg_pos (suc n) p = refl

-- a product with a positive factor is 0 where the other factor is
pub int_eq-mul : (z : ℤ) (d : ℕ) → 0 < d → int_eq (z *ℤ pos d) (pos 0) ≡ int_eq z (pos 0)
int_eq-mul (pos zero) d p = let e : 0 * d ≡ 0 = omega arith in ap (λ n. int_eq (pos n) (pos 0)) e
int_eq-mul (pos (suc n)) d p = int_eq_pos (suc n * d) (mul-pos (omega arith) p) ∙ sym (int_eq_pos (suc n) (omega arith))
int_eq-mul (negsuc n) d p = int_eq-neg_pos (suc n * d) (mul-pos (omega arith) p)

fraction_num : (n : ℤ) (d : ℕ) → 0 < d → (fraction n d).num ≡ shrunk n (gcd (nat_abs n) d)
unfolding fraction
fraction_num n zero p = absurd (omega arith)
fraction_num n (suc d) p = refl

fraction_den : (n : ℤ) (d : ℕ) → 0 < d → (fraction n d).den ≡ d / gcd (nat_abs n) d
unfolding fraction
fraction_den n zero p = absurd (omega arith)
fraction_den n (suc d) p = refl

shrunk_is : (n : ℤ) (g : ℕ) → shrunk n g ≡ signed (int_lt n (pos 0)) (nat_abs n / g)
shrunk_is (pos n) g = let e : nat_lt n 0 ≡ false = le-ltb n 0 (omega arith) in rw e
shrunk_is (negsuc n) g = refl

-- what code divides by: the greatest common divisor g of a numerator's size n and a denominator d
pub shared_pos : (n d g : ℕ) → 0 < d → g ≡ gcd n d → 0 < g
shared_pos n d g p e = subst (λ k. 0 < k) (sym e) (gcd_pos n d p)

pub den-shared_pos : (n d g : ℕ) → 0 < d → g ≡ gcd n d → 0 < d / g
den-shared_pos n d g p e = quotient_pos g d p (mul-div_cancel' g (subst (λ k. k ∣ d) (sym e) (gcd_lem n d).1))

pub gcd-shared : (n d g : ℕ) → 0 < d → g ≡ gcd n d → gcd (n / g) (d / g) ≡ 1
gcd-shared n d g p e = subst (λ k. gcd (n / k) (d / k) ≡ 1) (sym e) (gcd-div n d (gcd_pos n d p))

-- a numerator's sign and size and a denominator, each divided by the greatest common divisor, are the same fraction
pub fraction_reduced : (n : ℤ) (d g : ℕ) → 0 < d → g ≡ gcd (nat_abs n) d → fraction (signed (int_lt n (pos 0)) (nat_abs n / g)) (d / g) ≡ fraction n d
fraction_reduced n d g p e =
    ap₂ fraction (sym (shrunk_is n g) ∙ ap (shrunk n) e ∙ sym (fraction_num n d p)) (ap (λ k. d / k) e ∙ sym (fraction_den n d p))
    ∙ fraction_self (fraction n d)

-- an integer is its sign and its size
pub signed-nat_abs : (n : ℤ) → signed (int_lt n (pos 0)) (nat_abs n) ≡ n
signed-nat_abs (pos n) = ap (λ b. signed b n) (le-ltb n 0 (omega arith))
signed-nat_abs (negsuc n) = refl

-- ---- the other sign
pub minus : (x y : ℤ) → x ≡ y → pos 0 -ℤ x ≡ neg_ℤ y
minus x y e = omega (arith, ints)
