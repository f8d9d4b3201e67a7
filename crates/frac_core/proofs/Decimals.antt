-- Powers of ten, and fractions that are multiplied and divided by them.
use Rattle.std.specs.Prelude.{◌≡◌, ◌≢◌, ◌⊎◌, ℕ, zero, suc, ◌-◌, ◌*◌, ◌/◌, ◌%◌, ◌^◌, ◌<◌, ◌≤◌, ℤ, pos, negsuc, ◌*ℤ◌, nat_abs, int_lt, Bool, true, false, Ok, Err}
use Rattle.std.specs.Int.{◌∣◌}
use Rattle.std.proofs.Common.{arith, refl, sym, ap, subst, ◌∙◌, mul-pos, le_trans, ltb-true, mul_comm, inl, inr, mul-le-mul_left}
use Rattle.std.proofs.lemmas.Int.{unsigned_abs-mul}
use Rattle.std.proofs.Math.Nat.{dvd-mul_left, dvd-mul_right, dvd_trans, le_of_dvd, eq-one_of_dvd-one, one-dvd, pos_of_dvd_of_pos, pow-suc, mod-eq-zero_of_dvd, mul-div_cancel'}
use Rattle.std.proofs.lemmas.Nat.Gcd.{dvd_of_mod-eq-zero}
use native.Mathlib.Decide.{ℕ_discrete}
use Rattle.frac_core.specs.Gcd.{gcd, gcd_lem, gcd_is, gcd_comm, gcd-one, dvd_from_gcd-one, mul_cancel}
use Rattle.frac_core.specs.Ints.{neg_ℤ-*ℤ}
use Rattle.frac_core.specs.Fraction.{fraction, whole, whole_lowest, nought, times, signed}
use Rattle.frac_core.specs.Laws.{StandsFor-fraction, same_ratio, den_pos, times_comm, times_nought, fraction_lowest}
use Rattle.frac_core.specs.Decimal.{ten_to, ten_power_pos, times-ten_to, times-ten_to_minus}
use Rattle.frac_core.specs.Results.{narrow, narrow_small, narrow_wide_den}
use Rattle.frac_core.proofs.Parts.{lowest_wide_size, nat_abs-signed}
use Rattle.frac_core.specs.declared.fraction.FracFail.TheVariants.{Wide}

pub signed-zero : (b : Bool) → signed b 0 ≡ pos 0
signed-zero true = refl
signed-zero false = refl

pub signed-mul : (b : Bool) (n m : ℕ) → signed b (n * m) ≡ signed b n *ℤ pos m
signed-mul true n m = sym (neg_ℤ-*ℤ (pos n) (pos m))
signed-mul false n m = refl

-- the value of a literal whose digits are 0, whose exponent is not negative, and whose exponent is negative
pub value_zero : (b : Bool) (n : ℕ) (e : ℤ) → n ≡ 0 → Ok nought ≡ narrow (times (whole (signed b n)) (ten_to e))
value_zero b n e h =
    sym (narrow_small nought (omega arith) (omega arith))
    ∙ ap narrow (sym (times_nought (ten_to e)) ∙ times_comm (ten_to e) nought ∙ ap (λ z. times (whole z) (ten_to e)) (sym (ap (signed b) h ∙ signed-zero b)))

pub value_times : (b : Bool) (n k : ℕ) (e : ℤ) → k ≡ nat_abs e → int_lt e (pos 0) ≡ false → fraction (signed b (n * 10 ^ k)) 1 ≡ times (whole (signed b n)) (ten_to e)
value_times b n k (pos m) h f =
    ap (λ k. fraction (signed b (n * 10 ^ k)) 1) h
    ∙ fraction_lowest _ 1 (whole_lowest (signed b (n * 10 ^ m)))
    ∙ ap whole (signed-mul b n (10 ^ m))
    ∙ sym (times-ten_to (signed b n) m)
value_times b n k (negsuc m) h f = cc

pub value_over : (b : Bool) (n k : ℕ) (e : ℤ) → k ≡ nat_abs e → int_lt e (pos 0) ≡ true → fraction (signed b n) (10 ^ k) ≡ times (whole (signed b n)) (ten_to e)
value_over b n k (pos m) h f = absurd (omega (arith, ltb-true m 0 f))
value_over b n k (negsuc m) h f = ap (λ k. fraction (signed b n) (10 ^ k)) h ∙ sym (times-ten_to_minus (signed b n) m)

-- two numbers that have no factor in common with a third have a product that has none
gcd-mul_one : (a b n : ℕ) → gcd a n ≡ 1 → gcd b n ≡ 1 → gcd (a * b) n ≡ 1
gcd-mul_one a b n h k =
    let g = gcd_lem (a * b) n in
    let d = gcd (a * b) n in
    -- d divides a * b and n; with b it has no common factor
    let apart : gcd d b ≡ 1 =
    gcd_is d b 1 (one-dvd d, one-dvd b, λ e p q. subst (λ t. e ∣ t) k ((gcd_lem b n).2 e q (dvd_trans e p g.1))) in
    let left : d ∣ a = dvd_from_gcd-one d b a apart g.0 in
    eq-one_of_dvd-one (subst (λ t. d ∣ t) h ((gcd_lem a n).2 d left g.1))

-- what divides one of two numbers without a common factor has none with the other
pub gcd-dvd_one : (a n d : ℕ) → a ∣ n → gcd n d ≡ 1 → gcd a d ≡ 1
gcd-dvd_one a n d h g = gcd_is a d 1 (one-dvd a, one-dvd d, λ e p q. subst (λ t. e ∣ t) g ((gcd_lem n d).2 e (dvd_trans e p h) q))

two_or_one : (d : ℕ) → d ∣ 2 → d ≢ 1 → d ≡ 2
two_or_one d h ne =
    let le : d ≤ 2 = le_of_dvd (omega arith) h in
    let some : 0 < d = pos_of_dvd_of_pos h (omega arith) in
    omega arith

five_or_one : (d : ℕ) → d ∣ 5 → d ≢ 1 → d ≡ 5
five_or_one d h ne = by_cases d (le_of_dvd (omega arith) h) (pos_of_dvd_of_pos h (omega arith)) (mod-eq-zero_of_dvd d h) ne
  where
    by_cases : (d : ℕ) → d ≤ 5 → 0 < d → 5 % d ≡ 0 → d ≢ 1 → d ≡ 5
    by_cases zero a b e n = absurd (omega arith)
    by_cases (suc zero) a b e n = absurd (n refl)
    by_cases (suc (suc zero)) a b e n = absurd (omega arith)
    by_cases (suc (suc (suc zero))) a b e n = absurd (omega arith)
    by_cases (suc (suc (suc (suc zero)))) a b e n = absurd (omega arith)
    by_cases (suc (suc (suc (suc (suc m))))) a b e n = omega arith

two_apart : (n : ℕ) → 0 < n % 2 → gcd 2 n ≡ 1
two_apart n h = by_gcd (ℕ_discrete (gcd 2 n) 1)
  where
    by_gcd : Dec (gcd 2 n ≡ 1) → gcd 2 n ≡ 1
    by_gcd (yes g) = g
    by_gcd (no g) =
        let e = mod-eq-zero_of_dvd 2 (subst (λ t. t ∣ n) (two_or_one (gcd 2 n) (gcd_lem 2 n).0 g) (gcd_lem 2 n).1) in
        absurd (omega arith)

five_apart : (n : ℕ) → 0 < n % 5 → gcd 5 n ≡ 1
five_apart n h = by_gcd (ℕ_discrete (gcd 5 n) 1)
  where
    by_gcd : Dec (gcd 5 n ≡ 1) → gcd 5 n ≡ 1
    by_gcd (yes g) = g
    by_gcd (no g) =
        let e = mod-eq-zero_of_dvd 5 (subst (λ t. t ∣ n) (five_or_one (gcd 5 n) (gcd_lem 5 n).0 g) (gcd_lem 5 n).1) in
        absurd (omega arith)

prime_apart : (p n : ℕ) → (p ≡ 2) ⊎ (p ≡ 5) → 0 < n % p → gcd p n ≡ 1
prime_apart p n (inl e) h = subst (λ p. gcd p n ≡ 1) (sym e) (two_apart n (subst (λ p. 0 < n % p) e h))
prime_apart p n (inr e) h = subst (λ p. gcd p n ≡ 1) (sym e) (five_apart n (subst (λ p. 0 < n % p) e h))

-- a factor 2 or 5 that a numerator does not have keeps it without a common factor
pub gcd-prime : (n d p : ℕ) → (p ≡ 2) ⊎ (p ≡ 5) → gcd n d ≡ 1 → 0 < n % p → gcd n (d * p) ≡ 1
gcd-prime n d p h g k = gcd_comm n (d * p) ∙ gcd-mul_one d p n (gcd_comm d n ∙ g) (prime_apart p n h k)

-- and one that it has is taken out
pub gcd-divided : (n d p : ℕ) → gcd n d ≡ 1 → n % p ≡ 0 → gcd (n / p) d ≡ 1
gcd-divided n d p g k =
    let e : p * (n / p) ≡ n = mul-div_cancel' p (dvd_of_mod-eq-zero p k) in
    gcd-dvd_one (n / p) n d (subst (λ t. (n / p) ∣ t) e (dvd-mul_left (n / p) p)) g

pub across-divided : (n d p : ℕ) → n % p ≡ 0 → n / p * (d * p) ≡ n * d
across-divided n d p k =
    let e = ap (λ t. t * d) (mul-div_cancel' p (dvd_of_mod-eq-zero p k)) in
    omega arith

-- a power of ten is ten times the one before
pub ten_step : (k : ℕ) → 0 < k → 10 ^ k ≡ 10 * 10 ^ (k - 1)
ten_step zero p = absurd (omega arith)
ten_step (suc k) p =
    let e : k ≡ suc k - 1 = omega arith in
    pow-suc 10 k ∙ mul_comm (10 ^ k) 10 ∙ ap (λ j. 10 * 10 ^ j) e

-- a round of the division of n by the power of ten P, of which T is left: first by 2, then by 5
pub across-ten : (n s d s' d' s'' d'' T P : ℕ) → 0 < d → 0 < d' → n * (d * (10 * T)) ≡ s * P → s' * (d * 2) ≡ s * d' → s'' * (d' * 5) ≡ s' * d'' → n * (d'' * T) ≡ s'' * P
across-ten n s d s' d' s'' d'' T P p q e f g =
    let e' = ap (λ k. k * (d' * d'')) e in
    let f' = ap (λ k. k * (P * d'')) f in
    let g' = ap (λ k. k * (d * 2 * P)) g in
    mul_cancel (10 * d * d') _ _ (mul-pos (mul-pos (omega arith) p) q) (omega arith)

-- a number that is multiplied by a power of ten
pub wide_times : (b : Bool) (n s k : ℕ) → s * 10 ^ k ≡ n → 2 ^ 62 ≤ s → Err Wide ≡ narrow (fraction (signed b n) 1)
wide_times b n s k e h =
    let more : s * 1 ≤ s * 10 ^ k = mul-le-mul_left s (ten_power_pos k) in
    lowest_wide_size b n 1 (omega arith) (gcd-one n) (omega arith)

-- parts with equal products across are one fraction
pub fraction_across : (b : Bool) (n m d e : ℕ) → 0 < d → 0 < e → n * e ≡ m * d → fraction (signed b n) d ≡ fraction (signed b m) e
fraction_across b n m d e p q h =
    same_ratio _ _ _ _ _ _ (StandsFor-fraction (signed b n) d p) (StandsFor-fraction (signed b m) e q)
    (sym (signed-mul b n e) ∙ ap (signed b) h ∙ signed-mul b m d)

-- a denominator that has no factor in common with its numerator stays: where it passes the bound, so does the fraction
pub wide_across : (b : Bool) (n d s e t : ℕ) → 0 < d → 0 < t → gcd s e ≡ 1 → n * (e * t) ≡ s * d → 2 ^ 62 ≤ e → Err Wide ≡ narrow (fraction (signed b n) d)
wide_across b n d s e t p q g h w =
    let x = fraction (signed b n) d in
    let st = StandsFor-fraction (signed b n) d p in
    let sizes : nat_abs x.num * d ≡ n * x.den =
    sym (unsigned_abs-mul x.num (pos d)) ∙ ap nat_abs st.across ∙ unsigned_abs-mul (signed b n) (pos x.den) ∙ ap (λ k. k * x.den) (nat_abs-signed b n) in
    let scaled : d * (nat_abs x.num * (e * t)) ≡ d * (x.den * s) = (let u = ap (λ k. k * (e * t)) sizes in let v = ap (λ k. k * x.den) h in omega arith) in
    let shape : nat_abs x.num * (e * t) ≡ x.den * s = mul_cancel d _ _ p scaled in
    let whole : e * (nat_abs x.num * t) ≡ x.den * s = omega arith in
    let part : e ∣ x.den = dvd_from_gcd-one e s x.den (gcd_comm e s ∙ g) (subst (λ k. e ∣ k) whole (dvd-mul_right e (nat_abs x.num * t))) in
    sym (narrow_wide_den x (le_trans w (le_of_dvd (den_pos x) part)))
