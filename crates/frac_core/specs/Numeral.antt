-- Number literals as they are written, and what they are worth (PRISM manual, "The PRISM language": constants; RFC 8259,
-- section 6).
use Rattle.std.specs.Prelude.{◌≡◌, ◌⊎◌, ℕ, zero, suc, ◌+◌, ◌*◌, ◌/◌, ◌%◌, ◌^◌, ℤ, pos, ◌+ℤ◌, ◌-ℤ◌, nat_abs, nat_eq, nat_le, nat_lt, Bool, true, false, ◌||◌, ◌==◌, if◌then◌else◌, is_some, min, List, [], ◌∷◌, ◌++◌, length, Option, Some, None}
use Rattle.std.specs.Char.{is_ascii_digit, digit_value}
use Rattle.std.specs.Str.Parse.{AllDigits, IsNumeral, digits_value}
use Rattle.frac_core.specs.Fraction.{signed}
use Rattle.frac_core.specs.declared.decimal.Decimal.{Decimal}
use Rattle.frac_core.specs.declared.numeral.NumeralRead.{NumeralRead}
use Rattle.frac_core.specs.declared.numeral.Reading.{Reading}
use Rattle.frac_core.specs.declared.numeral.Section.{Section}
use Rattle.frac_core.specs.declared.numeral.Section.TheVariants.{Whole, Part, Power}

-- ---- as they are written

-- e or E, a sign that may be missing, and digits
pub record Exponent : Type 0 where
  pub mark : ℕ
  pub sign : Option ℕ
  pub digits : List ℕ

-- the digits before the point, those behind it where there is one, and an exponent that may be missing
pub record Numeral : Type 0 where
  pub whole : List ℕ
  pub part : Option (List ℕ)
  pub exponent : Option Exponent

abbrev pub sign_text : Option ℕ → List ℕ
sign_text None = []
sign_text (Some s) = s ∷ []

abbrev pub exponent_text : Option Exponent → List ℕ
exponent_text None = []
exponent_text (Some e) = e.mark ∷ (sign_text e.sign ++ e.digits)

abbrev pub part_text : Option (List ℕ) → List ℕ
part_text None = []
part_text (Some ds) = 46 ∷ ds

abbrev pub numeral_text : Numeral → List ℕ
numeral_text n = n.whole ++ (part_text n.part ++ exponent_text n.exponent)

abbrev pub minus_text : Bool → List ℕ
minus_text m = if m then 45 ∷ [] else []

abbrev pub IsSign : Option ℕ → Type 0
IsSign None = Unit {0}
IsSign (Some s) = (s ≡ 43) ⊎ (s ≡ 45)

abbrev pub IsExponent : Option Exponent → Type 0
IsExponent None = Unit {0}
IsExponent (Some e) = ((e.mark ≡ 101) ⊎ (e.mark ≡ 69)) × IsSign e.sign × IsNumeral 10 e.digits

abbrev pub IsPart : Option (List ℕ) → Type 0
IsPart None = Unit {0}
IsPart (Some ds) = IsNumeral 10 ds

-- 0, or digits the first of which is not 0
abbrev pub HasNoLeadingZero : List ℕ → Type 0
HasNoLeadingZero [] = Unit {0}
HasNoLeadingZero (c ∷ cs) = c ≡ 48 → cs ≡ []

-- All its digits are digits. Where the point has none before it, and whether zeros may lead, is each language's matter.
pub record HasDigits (n : Numeral) : Type 0 where
  pub whole : AllDigits 10 n.whole
  pub part : IsPart n.part
  pub exponent : IsExponent n.exponent

-- ---- what is read of them

abbrev pub is_mark : ℕ → Bool
is_mark b = b == 101 || b == 69

-- where what follows this byte stands
abbrev pub behind : Section → ℕ → Section
behind s b = if b == 46 then Part else if is_mark b then Power else s

abbrev pub made : Bool → Bool → ℕ → ℕ → Bool → ℕ → Reading
made real negative n p less q = record { real = real; negative = negative; digits = n; places = p; less = less; power = q }

abbrev pub nothing_read : Reading
nothing_read = made false false 0 0 false 0

abbrev pub with_digit : Section → ℕ → Reading → Reading
with_digit Whole d r = made r.real r.negative (r.digits * 10 + d) r.places r.less r.power
with_digit Part d r = made r.real r.negative (r.digits * 10 + d) (r.places + 1) r.less r.power
with_digit Power d r = made r.real r.negative r.digits r.places r.less (r.power * 10 + d)

abbrev pub with_minus : Section → Reading → Reading
with_minus Power r = made r.real r.negative r.digits r.places true r.power
with_minus Whole r = made r.real true r.digits r.places r.less r.power
with_minus Part r = made r.real true r.digits r.places r.less r.power

-- what a byte adds, by where it stands
abbrev pub with_byte : Section → ℕ → Reading → Reading
with_byte s b r =
    if is_ascii_digit b then with_digit s (digit_value b) r
    else if b == 46 || is_mark b then made true r.negative r.digits r.places r.less r.power
    else if b == 45 then with_minus s r else r

abbrev pub reading : Section → Reading → List ℕ → Reading
reading s r [] = r
reading s r (b ∷ bs) = reading (behind s b) (with_byte s b r) bs

-- the digits without the point, how many of them stand behind it, and the exponent
abbrev pub reading_of : List ℕ → Reading
reading_of w = reading Whole nothing_read w

-- the same with the two numbers that have no bound held at 10 ^ 38
abbrev pub capped : Reading → Reading
capped r = made r.real r.negative (min r.digits (10 ^ 38)) r.places r.less (min r.power (10 ^ 38))

-- where what follows a text stands
abbrev pub section_after : Section → List ℕ → Section
section_after s [] = s
section_after s (b ∷ bs) = section_after (behind s b) bs

-- All of this text was read.
pub record IsRead (text : List ℕ) (n : NumeralRead) : Type 0 where
  pub section : n.section ≡ section_after Whole text
  pub reading : n.reading ≡ capped (reading_of text)

-- ---- what they are worth

-- the exponent of the digits without their point
abbrev pub exponent_of : Reading → ℤ
exponent_of r = signed r.less r.power -ℤ pos r.places

abbrev pub literal : Bool → Bool → ℕ → ℤ → Decimal
literal real negative n e = record { real = real; negative = negative; exponent = e; digits = n }

-- a real without the zeros at the end of its digits, at most so many of them
abbrev pub stripped : ℕ → Bool → ℕ → ℤ → Decimal
stripped zero m n e = literal true m n e
stripped (suc k) m n e = if nat_eq (n % 10) 0 then stripped k m (n / 10) (e +ℤ pos 1) else literal true m n e

-- the normal form: zero has no sign and exponent 0, an int has exponent 0, and 10 does not divide the digits of a real
unfoldable pub value_of : Reading → Decimal
value_of r =
    if nat_eq r.digits 0 then literal r.real false 0 (pos 0)
    else if r.real then stripped r.digits r.negative r.digits (exponent_of r) else literal false r.negative r.digits (pos 0)

unfoldable pub worth : List ℕ → Decimal
worth w = value_of (reading_of w)

-- This program's limits: 38 digits before the exponent, from the first that is not 0, and exponents from -400 to 400
-- in normal form.
unfoldable pub is_beyond : List ℕ → Bool
is_beyond w = nat_le (10 ^ 38) (reading_of w).digits || nat_lt 400 (nat_abs (worth w).exponent)

-- the value of a literal within the limits
abbrev pub decimal_of : List ℕ → Option Decimal
decimal_of w = if is_beyond w then None else Some (worth w)

-- ---- what the text of a numeral is worth

abbrev pub part_digits : Option (List ℕ) → List ℕ
part_digits None = []
part_digits (Some ds) = ds

abbrev pub has_minus : Option ℕ → Bool
has_minus None = false
has_minus (Some s) = s == 45

abbrev pub exponent_minus : Option Exponent → Bool
exponent_minus None = false
exponent_minus (Some e) = has_minus e.sign

abbrev pub exponent_value : Option Exponent → ℕ
exponent_value None = 0
exponent_value (Some e) = digits_value 10 e.digits

abbrev pub numeral_reading : Bool → Numeral → Reading
numeral_reading m n =
    made (is_some n.part || is_some n.exponent) m (digits_value 10 (n.whole ++ part_digits n.part)) (length (part_digits n.part)) (exponent_minus n.exponent) (exponent_value n.exponent)

-- A numeral is read as it is written.
abbrev pub NumeralIsRead : Type 0
NumeralIsRead = (m : Bool) (n : Numeral) → HasDigits n → reading_of (minus_text m ++ numeral_text n) ≡ numeral_reading m n
