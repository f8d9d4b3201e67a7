-- Fractions, as in plain mathematics: unbounded, in lowest terms, with a positive denominator. There is one record for
-- each number, so equal numbers are equal records.
use Rattle.std.specs.Prelude.{◌≡◌, ℕ, zero, suc, ◌*◌, ◌/◌, ◌<◌, ◌^◌, ℤ, pos, negsuc, ◌+ℤ◌, ◌-ℤ◌, ◌*ℤ◌, neg_ℤ, nat_abs, int_lt, Bool, true, false, ◌&&◌, not, nat_eq, nat_lt, IsTrue, Option, Some, None, if◌then◌else◌}
use Rattle.std.proofs.Common.{arith, refl, ap}
use Rattle.std.specs.Ordering.{int_cmp, int_eq}
use Rattle.std.specs.Int.{int_div_euclid, int_rem_euclid}
use Rattle.std.specs.declared.cmp.Ordering.{Ordering}
use Rattle.std.proofs.Common.{lt-ltb, eq-eqb, pos_of_ne-zero}
use Rattle.std.proofs.Math.Nat.{mul-div_cancel'}
use Rattle.std.proofs.lemmas.Bool.{and_from}
use Rattle.frac_core.specs.Gcd.{gcd, gcd_lem, gcd_pos, gcd-div, gcd-one}

-- a positive denominator that has no factor in common with the numerator
abbrev pub is_lowest : ℤ → ℕ → Bool
is_lowest n d = nat_lt 0 d && nat_eq (gcd (nat_abs n) d) 1

pub record Fraction : Type 0 where
  pub num : ℤ
  pub den : ℕ
  pub lowest : IsTrue (is_lowest num den)

-- the parts that code keeps of a fraction
pub record IsKept (num den : ℤ) : Type 0 where
  pub lowest : IsTrue (is_lowest num (nat_abs den))
  pub positive : den ≡ pos (nat_abs den)
  pub num_small : nat_abs num < 2 ^ 62
  pub den_small : nat_abs den < 2 ^ 62

-- an integer of this size, negative where the test says so
abbrev pub signed : Bool → ℕ → ℤ
signed true n = neg_ℤ (pos n)
signed false n = pos n

-- an integer's size divided, and its sign kept
abbrev pub shrunk : ℤ → ℕ → ℤ
shrunk (pos n) g = pos (n / g)
shrunk (negsuc n) g = neg_ℤ (pos (suc n / g))

nat_abs-neg_pos : (n : ℕ) → nat_abs (neg_ℤ (pos n)) ≡ n
nat_abs-neg_pos zero = refl
nat_abs-neg_pos (suc n) = refl

pub nat_abs-shrunk : (n : ℤ) (g : ℕ) → nat_abs (shrunk n g) ≡ nat_abs n / g
nat_abs-shrunk (pos n) g = refl
nat_abs-shrunk (negsuc n) g = nat_abs-neg_pos (suc n / g)

pub is_lowest_from : (n : ℤ) (d : ℕ) → 0 < d → gcd (nat_abs n) d ≡ 1 → IsTrue (is_lowest n d)
is_lowest_from n d p e = and_from _ _ (lt-ltb 0 d p) (eq-eqb _ _ e)

pub quotient_pos : (g d : ℕ) → 0 < d → g * (d / g) ≡ d → 0 < d / g
quotient_pos g d p e = pos_of_ne-zero (λ z. let t = ap (λ q. g * q) z in omega arith)

pub shrunk_lowest : (n : ℤ) (d : ℕ) → IsTrue (is_lowest (shrunk n (gcd (nat_abs n) (suc d))) (suc d / gcd (nat_abs n) (suc d)))
shrunk_lowest n d =
    let g = gcd (nat_abs n) (suc d) in
    let e : g * (suc d / g) ≡ suc d = mul-div_cancel' g (gcd_lem (nat_abs n) (suc d)).1 in
    is_lowest_from (shrunk n g) (suc d / g) (quotient_pos g (suc d) (omega arith) e)
    (rw (nat_abs-shrunk n g) (gcd-div (nat_abs n) (suc d) (gcd_pos (nat_abs n) (suc d) (omega arith))))

pub whole_lowest : (n : ℤ) → IsTrue (is_lowest n 1)
whole_lowest n = is_lowest_from n 1 (omega arith) (gcd-one (nat_abs n))

-- an integer as a fraction
abbrev pub whole : ℤ → Fraction
whole n = record { num = n; den = 1; lowest = whole_lowest n }

abbrev pub nought : Fraction
nought = whole (pos 0)

abbrev pub unit : Fraction
unit = whole (pos 1)

-- n / d in lowest terms; 0 where d is 0
unfoldable pub fraction : ℤ → ℕ → Fraction
fraction n zero = nought
fraction n (suc d) = record {
  num = shrunk n (gcd (nat_abs n) (suc d));
  den = suc d / gcd (nat_abs n) (suc d);
  lowest = shrunk_lowest n d;
}

unfoldable pub plus : Fraction → Fraction → Fraction
plus x y = fraction (x.num *ℤ pos y.den +ℤ y.num *ℤ pos x.den) (x.den * y.den)

-- the fraction with the other sign
unfoldable pub negated : Fraction → Fraction
negated x = fraction (neg_ℤ x.num) x.den

unfoldable pub difference : Fraction → Fraction → Fraction
difference x y = fraction (x.num *ℤ pos y.den -ℤ y.num *ℤ pos x.den) (x.den * y.den)

unfoldable pub times : Fraction → Fraction → Fraction
times x y = fraction (x.num *ℤ y.num) (x.den * y.den)

-- n / m in lowest terms; 0 where m is 0
abbrev pub quotient : ℤ → ℤ → Fraction
quotient n (pos d) = fraction n d
quotient n (negsuc d) = fraction (neg_ℤ n) (suc d)

-- x / y; 0 where y is 0
unfoldable pub over : Fraction → Fraction → Fraction
over x y = quotient (x.num *ℤ pos y.den) (y.num *ℤ pos x.den)

-- both parts are the same
abbrev pub same_number : Fraction → Fraction → Bool
same_number x y = int_eq x.num y.num && nat_eq x.den y.den

-- the order, by products across
abbrev pub compare : Fraction → Fraction → Ordering
compare x y = int_cmp (x.num *ℤ pos y.den) (y.num *ℤ pos x.den)

-- the fraction is a whole number
abbrev pub is_whole : Fraction → Bool
is_whole x = nat_eq x.den 1

-- the greatest whole number at most the fraction
abbrev pub floor_of : Fraction → ℤ
floor_of x = int_div_euclid x.num (pos x.den)

-- the least whole number at least the fraction
abbrev pub ceil_of : Fraction → ℤ
ceil_of x = neg_ℤ (int_div_euclid (neg_ℤ x.num) (pos x.den))

-- of whole numbers: what is left of x, from 0 to y - 1, after y is taken a whole number of times; nothing where y is at
-- most 0
abbrev pub remainder : Fraction → Fraction → Option Fraction
remainder x y = if int_lt (pos 0) y.num then Some (whole (int_rem_euclid x.num y.num)) else None

-- a part is at least 2^62 in size: the fraction passes the bound of code
abbrev pub is_wide : Fraction → Bool
is_wide x = not (nat_lt (nat_abs x.num) (2 ^ 62) && nat_lt x.den (2 ^ 62))
