-- The canonical texts of literals (PRISM manual, "The PRISM Language": constants; RFC 8259, section 6).
use Rattle.std.specs.Prelude.{◌≡◌, ℕ, zero, suc, ◌+◌, ◌/◌, ◌%◌, ◌^◌, ◌<◌, ◌≤◌, ℤ, pos, negsuc, nat_abs, nat_lt, true, false, List, [], ◌∷◌, ◌++◌, length, codes, if◌then◌else◌}
use Rattle.frac_core.specs.declared.decimal.Decimal.{Decimal}
use Rattle.frac_core.specs.Decimal.{is_normal}
use Rattle.frac_core.specs.Numeral.{Numeral, HasDigits, HasNoLeadingZero, minus_text, numeral_text, worth, is_beyond}

-- the decimal digits of a number that has at most so many
abbrev pub digits_of : ℕ → ℕ → List ℕ
digits_of zero n = []
digits_of (suc k) n = if nat_lt n 10 then (48 + n) ∷ [] else digits_of k (n / 10) ++ (48 + n % 10) ∷ []

-- a number in decimal, without leading zeros
unfoldable pub digits : ℕ → List ℕ
digits n = digits_of (suc n) n

-- the last digits of a number, so many, with zeros in front
abbrev pub padded : ℕ → ℕ → List ℕ
padded zero n = []
padded (suc k) n = padded k (n / 10) ++ (48 + n % 10) ∷ []

-- a real that is n times 10 to the exponent: with exponent 0 the digits and `.0`, down to -20 with a point and as many
-- decimals, else with `e`
abbrev pub real_text : ℕ → ℤ → List ℕ
real_text n (pos zero) = digits n ++ codes ".0"
real_text n (pos (suc p)) = digits n ++ (codes "e" ++ digits (suc p))
real_text n (negsuc m) =
    if nat_lt m 20 then digits (n / 10 ^ suc m) ++ (codes "." ++ padded (suc m) (n % 10 ^ suc m))
    else digits n ++ (codes "e-" ++ digits (suc m))

-- an int in decimal, a real by its form, a minus sign before a negative number
abbrev pub number_text : Decimal → List ℕ
number_text d = minus_text d.negative ++ (if d.real then real_text d.digits d.exponent else digits d.digits)

-- The text is that of a numeral with digits before its point and no zeros in front, and is worth the decimal.
pub record IsTextOf (w : List ℕ) (d : Decimal) : Type 0 where
  pub numeral : Numeral
  pub digits : HasDigits numeral
  pub some : 0 < length numeral.whole
  pub lead : HasNoLeadingZero numeral.whole
  pub text : w ≡ minus_text d.negative ++ numeral_text numeral
  pub value : worth w ≡ d

abbrev pub TextReadsBack : Type 0
TextReadsBack = (d : Decimal) → is_normal d ≡ true → IsTextOf (number_text d) d

abbrev pub WorthIsNormal : Type 0
WorthIsNormal = (w : List ℕ) → is_normal (worth w) ≡ true

abbrev pub WorthIsWithin : Type 0
WorthIsWithin = (w : List ℕ) → is_beyond w ≡ false → ((worth w).digits < 10 ^ 38) × (nat_abs (worth w).exponent ≤ 400)
