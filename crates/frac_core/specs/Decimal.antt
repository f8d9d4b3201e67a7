-- Decimal literals, which stand for their digits times a power of ten (PRISM manual, expressions; RFC 8259, section 6):
-- their normal form and their values.
use Rattle.std.specs.Prelude.{◌≡◌, ℕ, suc, ◌*◌, ◌%◌, ◌^◌, ◌<◌, ℤ, pos, negsuc, ◌*ℤ◌, nat_eq, Bool, true, false, not, ◌&&◌, if◌then◌else◌}
use Rattle.std.specs.Ordering.{int_eq}
use Rattle.std.proofs.Common.{arith, refl, ap, ◌∙◌}
use Rattle.std.proofs.Math.Nat.{one-le-pow}
use Rattle.frac_core.specs.Order.{one_times}
use Rattle.frac_core.specs.Ints.{minus_same, as_minus, by_parts}
use Rattle.frac_core.specs.Fraction.{Fraction, fraction, whole, times, signed}
use Rattle.frac_core.specs.Laws.{StandsFor-fraction, StandsFor_self, StandsFor-times, same_ratio}
use Rattle.frac_core.specs.declared.decimal.Decimal.{Decimal}

-- how readers keep a literal: digits of a real are not divisible by 10, an int has exponent 0, and zero has exponent 0
-- and no sign
abbrev pub is_normal : Decimal → Bool
is_normal d =
    if nat_eq d.digits 0 then not d.negative && int_eq d.exponent (pos 0)
    else if d.real then not (nat_eq (d.digits % 10) 0)
    else int_eq d.exponent (pos 0)

-- in normal form and not negative
abbrev pub IsLiteral : Decimal → Type 0
IsLiteral d = (is_normal d ≡ true) × (d.negative ≡ false)

-- 10 to a power
unfoldable pub ten_to : ℤ → Fraction
ten_to (pos n) = whole (pos (10 ^ n))
ten_to (negsuc n) = fraction (pos 1) (10 ^ suc n)

-- the signed digits times 10 to the exponent
unfoldable pub decimal_value : Decimal → Fraction
decimal_value d = times (whole (signed d.negative d.digits)) (ten_to d.exponent)

pub ten_power_pos : (k : ℕ) → 0 < 10 ^ k
ten_power_pos k = one-le-pow k 10 (omega arith)

-- an integer times a power of ten
pub times-ten_to : (z : ℤ) (k : ℕ) → times (whole z) (ten_to (pos k)) ≡ whole (z *ℤ pos (10 ^ k))
unfolding ten_to
times-ten_to z k =
    let power = whole (pos (10 ^ k)) in
    same_ratio _ _ _ _ _ _ (StandsFor-times (whole z) power _ _ _ _ (StandsFor_self (whole z)) (StandsFor_self power)) (StandsFor_self (whole (z *ℤ pos (10 ^ k)))) refl

-- an integer over a power of ten
pub times-ten_to_minus : (z : ℤ) (k : ℕ) → times (whole z) (ten_to (negsuc k)) ≡ fraction z (10 ^ suc k)
unfolding ten_to
times-ten_to_minus z k =
    let power = 10 ^ suc k in
    let part = StandsFor-fraction (pos 1) power (ten_power_pos (suc k)) in
    same_ratio _ _ _ _ _ _ (StandsFor-times (whole z) (fraction (pos 1) power) _ _ _ _ (StandsFor_self (whole z)) part) (StandsFor-fraction z power (ten_power_pos (suc k)))
    (by_parts (λ z. (z *ℤ pos 1) *ℤ pos power ≡ z *ℤ pos (1 * power)) (λ a b. simp as_minus (minus_same _ _ _ _ (omega arith))) z)

-- the value of a literal without an exponent is a whole number
pub decimal_value-whole : (d : Decimal) → d.exponent ≡ pos 0 → decimal_value d ≡ whole (signed d.negative d.digits)
unfolding decimal_value
decimal_value-whole d h =
    ap (λ e. times (whole (signed d.negative d.digits)) (ten_to e)) h
    ∙ times-ten_to (signed d.negative d.digits) 0
    ∙ ap whole (one_times (signed d.negative d.digits))
