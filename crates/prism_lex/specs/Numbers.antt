-- Numbers (PRISM manual, "The PRISM language": constants), against the automaton that reads them.
use Rattle.std.specs.Prelude.{◌≡◌, ◌↔◌, ℕ, ◌^◌, ◌<◌, ◌≤◌, ◌==◌, if◌then◌else◌, Bool, true, false, List, [], ◌∷◌, length, Option, Some, None}
use Rattle.std.specs.Str.Parse.{AllDigits, IsNumeral, digits_value}
use Rattle.frac_core.specs.declared.decimal.Decimal.{Decimal}
use Rattle.frac_core.specs.Numeral.{Numeral, IsExponent, numeral_text, numeral_reading, reading_of, worth}
use Rattle.prism_lex.specs.declared.automaton.State.{State}
use Rattle.prism_lex.specs.declared.automaton.State.TheVariants.{Start, Letters, Whole, Point, Part, Mark, Sign, Power, Quote, Inside, Closed, Dead}
use Rattle.prism_lex.specs.Automaton.{after}

-- Only a digit of a number leads here.
abbrev pub is_at_digit : State → Bool
is_at_digit Whole = true
is_at_digit Part = true
is_at_digit Power = true
is_at_digit Start = false
is_at_digit Letters = false
is_at_digit Point = false
is_at_digit Mark = false
is_at_digit Sign = false
is_at_digit Quote = false
is_at_digit Inside = false
is_at_digit Closed = false
is_at_digit Dead = false

abbrev pub is_number : List ℕ → Bool
is_number w = is_at_digit (after Start w)

-- The text is a number of this value.
pub record IsWorth (w : List ℕ) (d : Decimal) : Type 0 where
  pub number : is_number w ≡ true
  pub value : worth w ≡ d

-- Without a point there are digits before it; with one there are digits behind it.
abbrev pub IsMantissa : List ℕ → Option (List ℕ) → Type 0
IsMantissa whole None = IsNumeral 10 whole
IsMantissa whole (Some ds) = AllDigits 10 whole × IsNumeral 10 ds

abbrev pub IsProper : Numeral → Type 0
IsProper n = IsMantissa n.whole n.part × IsExponent n.exponent

-- Each numeral is a number, and is read as it is written.
abbrev pub NumeralIsNumber : Type 0
NumeralIsNumber = (n : Numeral) → IsProper n → (is_number (numeral_text n) ≡ true) × (reading_of (numeral_text n) ≡ numeral_reading false n)

-- Each number is the text of a numeral.
abbrev pub NumberIsNumeral : Type 0
NumberIsNumeral = (w : List ℕ) → is_number w ≡ true → (n : Numeral) × IsProper n × (w ≡ numeral_text n)

-- the digits from the first that is not 0
abbrev pub significant : List ℕ → List ℕ
significant [] = []
significant (c ∷ cs) = if c == 48 then significant cs else c ∷ cs

-- Digits are below the limit just where there are at most 38 of them from the first that is not 0.
abbrev pub LimitIs38Digits : Type 0
LimitIs38Digits = (ds : List ℕ) → AllDigits 10 ds → (digits_value 10 ds < 10 ^ 38) ↔ (length (significant ds) ≤ 38)
