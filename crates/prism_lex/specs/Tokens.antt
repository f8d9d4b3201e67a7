-- The tokens of a text, and the faults among them (PRISM manual, "The PRISM language").
use Rattle.std.specs.Prelude.{◌≡◌, ℕ, ◌+◌, ◌<◌, ◌≤◌, nat_lt, Bool, true, false, ◌&&◌, ◌||◌, List, [], ◌∷◌, ◌++◌, length, drop, slice_range, Option, Some, None, if◌then◌else◌}
use Rattle.std.specs.List.{list_all}
use Rattle.bridge_io.specs.declared.reason.Reason.{Reason}
use Rattle.bridge_io.specs.declared.reason.Reason.TheVariants.{TooLong, BadByte, BadNumber}
use Rattle.bridge_io.specs.declared.reason.Fault.{Fault}
use Rattle.prism_lex.specs.declared.token.Token.{Token}
use Rattle.prism_lex.specs.declared.token.TokenKind.{TokenKind}
use Rattle.prism_lex.specs.declared.token.TokenKind.TheVariants.{Word, Ident, Quoted, Number, Symbol, End}
use Rattle.prism_lex.specs.Words.{lookup, words, symbols}
use Rattle.prism_lex.specs.Automaton.{is_letter, is_digit}
use Rattle.prism_lex.specs.Numbers.{IsWorth}
use Rattle.frac_core.specs.Numeral.{is_beyond}
use Rattle.prism_lex.specs.Gaps.{IsGap}

-- a letter or _, then letters, digits and _
abbrev pub is_name : List ℕ → Bool
is_name [] = false
is_name (b ∷ bs) = is_letter b && list_all (λ c. is_letter c || is_digit c) bs

-- The text is a token of this kind. An identifier is a name that is not reserved, a quoted name a name between quotes.
abbrev pub IsKind : List ℕ → TokenKind → Type 0
IsKind w (Word r) = lookup w words ≡ Some r
IsKind w Ident = (is_name w ≡ true) × (lookup w words ≡ None)
IsKind w Quoted = (name : List ℕ) × (w ≡ 34 ∷ (name ++ 34 ∷ [])) × (is_name name ≡ true)
IsKind w (Number d) = IsWorth w d
IsKind w (Symbol s) = lookup w symbols ≡ Some s
IsKind w End = ⊥

-- The text is a token.
abbrev pub IsToken : List ℕ → Type 0
IsToken w = (k : TokenKind) × IsKind w k

-- w is of the class, and nothing longer is that stands at its place.
pub record IsLongest (Class : List ℕ → Type 0) (w rest : List ℕ) : Type 0 where
  pub is : Class w
  pub longest : (v z : List ℕ) → w ++ rest ≡ v ++ z → Class v → length v ≤ length w

-- a token with its text and the offset at which it begins
pub record Lexeme : Type 0 where
  pub kind : TokenKind
  pub text : List ℕ
  pub at : ℕ

-- the offset behind it
abbrev pub end_of : Lexeme → ℕ
end_of l = l.at + length l.text

-- the lexeme of a token of the bytes
abbrev pub lexeme_of : List ℕ → Token → Lexeme
lexeme_of bytes t = record { kind = t.kind; text = slice_range bytes t.at t.end; at = t.at }

-- From an offset on stands the longest gap, and behind it the lexeme, as the longest token.
pub record IsNext (bytes : List ℕ) (from : ℕ) (l : Lexeme) : Type 0 where
  pub gap : List ℕ
  pub rest : List ℕ
  pub parts : drop from bytes ≡ gap ++ (l.text ++ rest)
  pub is_between : IsLongest IsGap gap (l.text ++ rest)
  pub is_token : IsLongest IsToken l.text rest
  pub kind : IsKind l.text l.kind
  pub begins : l.at ≡ from + length gap

-- From an offset on stands only a gap.
abbrev pub IsEnd : List ℕ → ℕ → Type 0
IsEnd bytes from = IsGap (drop from bytes)

-- From an offset on stands the longest gap, and behind it, at another offset, a byte at which no token begins.
pub record IsStuck (bytes : List ℕ) (from at : ℕ) : Type 0 where
  pub gap : List ℕ
  pub rest : List ℕ
  pub parts : drop from bytes ≡ gap ++ rest
  pub is_between : IsLongest IsGap gap rest
  pub some : 0 < length rest
  pub none : (v z : List ℕ) → rest ≡ v ++ z → IsToken v → ⊥
  pub begins : at ≡ from + length gap

-- how the reading of a text ends: with the last gap, or at a byte at which no token begins
pub data Ending : Type 0 where
  finished : Ending
  stuck : ℕ → Ending

-- The reading of the bytes from an offset on: these tokens one after another, and this ending.
abbrev pub Reads : List ℕ → ℕ → List Lexeme → Ending → Type 0
Reads bytes from [] finished = IsEnd bytes from
Reads bytes from [] (stuck at) = IsStuck bytes from at
Reads bytes from (l ∷ ls) e = IsNext bytes from l × Reads bytes (end_of l) ls e

-- These are the tokens of the bytes.
abbrev pub Tokens : List ℕ → List Lexeme → Type 0
Tokens bytes ls = Reads bytes 0 ls finished

-- why a token is refused, by this program's limits: a name of more than 255 bytes, without its quotes, or a number
-- past the limits
abbrev pub refusal : TokenKind → List ℕ → Option Reason
refusal Ident w = if nat_lt 255 (length w) then Some TooLong else None
refusal Quoted w = if nat_lt 257 (length w) then Some TooLong else None
refusal (Number d) w = if is_beyond w then Some BadNumber else None
refusal (Word _) w = None
refusal (Symbol _) w = None
refusal End w = None

abbrev pub refusal_of : Lexeme → Option Reason
refusal_of l = refusal l.kind l.text

abbrev pub fault : Reason → ℕ → Fault
fault reason at = record { reason = reason; at = at }

-- one fault more, where there is a reason
abbrev pub with_fault : Option Reason → ℕ → List Fault → List Fault
with_fault None at fs = fs
with_fault (Some reason) at fs = fault reason at ∷ fs

-- the faults of a reading: one at each token that is refused, and one where no token begins
abbrev pub faults_of : List Lexeme → Ending → List Fault
faults_of [] finished = []
faults_of [] (stuck at) = fault BadByte at ∷ []
faults_of (l ∷ ls) e = with_fault (refusal_of l) l.at (faults_of ls e)

-- These are the faults of the tokens of the bytes, all of them.
abbrev pub TokenFaults : List ℕ → List Fault → Type 0
TokenFaults bytes fs = (ls : List Lexeme) × (e : Ending) × Reads bytes 0 ls e × (fs ≡ faults_of ls e)

-- From an offset on the first token is refused, or no token begins: the fault is there.
pub data IsFault (bytes : List ℕ) (from : ℕ) (f : Fault) : Type 0 where
  refused : (l : Lexeme) → IsNext bytes from l → refusal_of l ≡ Some f.reason → f.at ≡ l.at → IsFault bytes from f
  no_token : IsStuck bytes from f.at → f.reason ≡ BadByte → IsFault bytes from f

-- From an offset on comes this token, which is not refused; it stands behind the offset and within the bytes.
pub record Continues (bytes : List ℕ) (from : ℕ) (t : Token) : Type 0 where
  pub next : IsNext bytes from (lexeme_of bytes t)
  pub accepted : refusal_of (lexeme_of bytes t) ≡ None
  pub behind : from ≤ t.at
  pub some : t.at < t.end
  pub within : t.end ≤ length bytes

-- From an offset on comes the end, which stands at the length of the bytes.
pub record Finishes (bytes : List ℕ) (from : ℕ) (t : Token) : Type 0 where
  pub gap : IsEnd bytes from
  pub at : t.at ≡ length bytes
  pub end : t.end ≡ length bytes
