-- Parts of texts: truth values, digits, and a sign that may be missing (this project's own rule).
use Rattle.std.specs.Prelude.{◌≡◌, ◌≢◌, ℕ, ◌^◌, min, nat_lt, Bool, true, false, ◌&&◌, List, [], ◌++◌, length, Option, Some, None, codes, bytes_eq, slice_index, if◌then◌else◌}
use Rattle.std.specs.List.{list_all}
use Rattle.std.specs.Char.{is_ascii_digit}
use Rattle.std.specs.Str.Parse.{digits_value}

abbrev pub truth_of : List ℕ → Option Bool
truth_of w = if bytes_eq w (codes "true") then Some true else (if bytes_eq w (codes "false") then Some false else None)

-- one digit or more
abbrev pub is_numeral : List ℕ → Bool
is_numeral ds = nat_lt 0 (length ds) && list_all is_ascii_digit ds

-- the number that digits write, held at 10^38
abbrev pub digits_of : List ℕ → Option ℕ
digits_of ds = if is_numeral ds then Some (min (digits_value 10 ds) (10 ^ 38)) else None

abbrev pub sign_text : Bool → List ℕ
sign_text true = codes "-"
sign_text false = []

-- the text is this one with a minus before it, or this one, which then has none before it
pub record IsSigned (w : List ℕ) (minus : Bool) (u : List ℕ) : Type 0 where
  pub text : w ≡ sign_text minus ++ u
  pub bare : minus ≡ false → slice_index w 0 ≢ 45
