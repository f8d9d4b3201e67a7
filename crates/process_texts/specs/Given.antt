-- What a text says of a constant: its value, exact, and whether a number in it is past the limits of numbers in files.
-- (Numbers are those of the PRISM manual, "The PRISM language": constants; the rest is this project's own rule.)
use Rattle.std.specs.Prelude.{◌≡◌, ◌≢◌, ℕ, ◌^◌, nat_le, Bool, true, false, ◌||◌, List, ◌++◌, codes}
use Rattle.std.specs.Str.Parse.{IsNumeral, digits_value}
use Rattle.frac_core.specs.Fraction.{fraction, is_wide, signed}
use Rattle.frac_core.specs.Decimal.{decimal_value}
use Rattle.frac_core.specs.Numeral.{is_beyond, worth}
use Rattle.op_trees.specs.declared.tree.Value.{Value}
use Rattle.op_trees.specs.declared.tree.Value.TheVariants.{Truth, Number}
use Rattle.prism_lex.specs.Numbers.{is_number}
use Rattle.process_texts.specs.Texts.{truth_text}
use Rattle.process_texts.specs.Forms.{sign_text}
use Rattle.process_texts.specs.declared.given.GivenText.{GivenText}
use Rattle.process_texts.specs.declared.given.GivenText.TheVariants.{Good, Past, NoForm}

abbrev pub is_wide_value : Value → Bool
is_wide_value (Truth b) = false
is_wide_value (Number x) = is_wide x

-- a number as PRISM texts have it, with a sign
pub record IsLiteral (minus : Bool) (u : List ℕ) (v : Value) (past : Bool) : Type 0 where
  pub number : is_number u ≡ true
  pub value : v ≡ Number (decimal_value (record (worth u) { negative = minus }))
  pub limit : past ≡ is_beyond u

abbrev pub is_long : List ℕ → Bool
is_long ds = nat_le (10 ^ 38) (digits_value 10 ds)

-- n/m with a sign, where n and m are digits and m is not 0
pub record IsRatio (minus : Bool) (n m : List ℕ) (v : Value) (past : Bool) : Type 0 where
  pub top : IsNumeral 10 n
  pub below : IsNumeral 10 m
  pub nonzero : digits_value 10 m ≢ 0
  pub value : v ≡ Number (fraction (signed minus (digits_value 10 n)) (digits_value 10 m))
  pub limit : past ≡ (is_long n || is_long m)

-- The text spells this value, and whether a number in it is past the limits.
pub data IsValue (w : List ℕ) (v : Value) (past : Bool) : Type 0 where
  truth : (b : Bool) → w ≡ truth_text b → v ≡ Truth b → past ≡ false → IsValue w v past
  literal : (minus : Bool) (u : List ℕ) → w ≡ sign_text minus ++ u → IsLiteral minus u v past → IsValue w v past
  ratio : (minus : Bool) (n m : List ℕ) → w ≡ sign_text minus ++ (n ++ (codes "/" ++ m)) → IsRatio minus n m v past → IsValue w v past

-- the answer about a text that spells such values: a value within the bound, with numbers within the limits; or one that is
-- past; or none
abbrev pub Answers : (Value → Bool → Type 0) → GivenText → Type 0
Answers Is (Good v) = Is v false × (is_wide_value v ≡ false)
Answers Is Past = (v : Value) × (past : Bool) × Is v past × ((is_wide_value v || past) ≡ true)
Answers Is NoForm = (v : Value) (past : Bool) → Is v past → ⊥
