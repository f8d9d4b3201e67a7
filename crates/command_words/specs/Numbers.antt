-- Numbers in words: one number, and pairs of them with commas between them. (This project's own rule.)
use Rattle.std.specs.Prelude.{◌≡◌, ◌≢◌, ℕ, ◌^◌, ◌<◌, ◌≤◌, List, [], ◌∷◌, ◌++◌, map, decimal, Option, Some, None, option_map, slice_index, length}
use Rattle.std.specs.List.{AllByRecursion}
use Rattle.decimal_json.specs.Text.{with_commas}
use Rattle.command_words.specs.declared.numbers.Front.{Front}

-- the decimal digits of a number of at most `most`, without sign or leading zeros
abbrev pub IsNumber : ℕ → List ℕ → ℕ → Type 0
IsNumber most w n = (n ≤ most) × (w ≡ decimal n)

-- the number that a text writes; or none, where it writes no such number
abbrev pub ReadsNumber : ℕ → List ℕ → Option ℕ → Type 0
ReadsNumber most w (Some n) = IsNumber most w n
ReadsNumber most w None = (n : ℕ) → IsNumber most w n → ⊥

-- ---- pairs
abbrev pub numbers_of : List (ℕ × ℕ) → List ℕ
numbers_of [] = []
numbers_of (p ∷ ps) = p.0 ∷ p.1 ∷ numbers_of ps

-- N,N,..
abbrev pub pairs_text : List (ℕ × ℕ) → List ℕ
pairs_text ps = with_commas (map decimal (numbers_of ps))

abbrev pub IsSmall : ℕ × ℕ → Type 0
IsSmall p = (p.0 < 2 ^ 32) × (p.1 < 2 ^ 32)

-- The text writes these pairs, one or more, of numbers below 2^32.
pub record IsPairs (w : List ℕ) (ps : List (ℕ × ℕ)) : Type 0 where
  pub some : ps ≢ []
  pub small : AllByRecursion IsSmall ps
  pub text : w ≡ pairs_text ps

-- the pairs that a text writes; or none, where it writes none
abbrev pub ReadsPairs : List ℕ → Option (List (ℕ × ℕ)) → Type 0
ReadsPairs w (Some ps) = IsPairs w ps
ReadsPairs w None = (ps : List (ℕ × ℕ)) → IsPairs w ps → ⊥

-- ---- the same, as a program goes about it
abbrev pub IsWithout : ℕ → List ℕ → Type 0
IsWithout c w = (i : ℕ) → i < length w → slice_index w i ≢ c

-- a text up to its first comma, and behind it
abbrev pub IsPartition : List ℕ → List ℕ → Option (List ℕ) → Type 0
IsPartition w front None = (w ≡ front) × IsWithout 44 front
IsPartition w front (Some back) = (w ≡ front ++ 44 ∷ back) × IsWithout 44 front

-- two numbers, and what stands behind the comma after them
abbrev pub IsFront : List ℕ → ℕ × ℕ → Option (List ℕ) → Type 0
IsFront w p None = IsSmall p × (w ≡ decimal p.0 ++ 44 ∷ decimal p.1)
IsFront w p (Some back) = IsSmall p × (w ≡ decimal p.0 ++ 44 ∷ (decimal p.1 ++ 44 ∷ back))

abbrev pub FrontIs : List ℕ → Option Front → Type 0
FrontIs w None = (ps : List (ℕ × ℕ)) → IsPairs w ps → ⊥
FrontIs w (Some f) = IsFront w f.pair (option_map (λ s. s.now) f.rest)
