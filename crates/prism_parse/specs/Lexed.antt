-- The tokens of a text, as they are kept.
use Rattle.std.specs.Prelude.{◌≡◌, ℕ, ◌+◌, ◌*◌, ◌-◌, ◌≤◌, List, [], ◌++◌, length, map, slice_get, Option, Some, None}
use Rattle.bridge_io.specs.declared.reason.Refused.{Refused}
use Rattle.bridge_io.specs.declared.reason.Refused.TheVariants.{Memory, At}
use Rattle.prism_lex.specs.declared.token.Token.{Token}
use Rattle.prism_lex.specs.declared.token.TokenKind.{TokenKind}
use Rattle.prism_lex.specs.declared.token.TokenKind.TheVariants as K
use Rattle.prism_lex.specs.Tokens.{Tokens, TokenFaults}
use Rattle.prism_lex.specs.Laws.{IsFirstFault}
use Rattle.prism_exprs.specs.declared.tokens.Kept.{Kept}
use Rattle.prism_exprs.specs.declared.tokens.Kept.TheVariants.{Word, Symbol, Ident, Quoted, Number}
use Rattle.prism_exprs.specs.declared.tokens.Found.{Found}
use Rattle.prism_exprs.specs.declared.tokens.Literal.{Literal}
use Rattle.prism_exprs.specs.Kept.{in_row, lexeme_at}

-- what a token is kept as that is no number; none of the end
abbrev pub kept_kind : TokenKind → Option Kept
kept_kind (K.Word r) = Some (Word r)
kept_kind (K.Symbol s) = Some (Symbol s)
kept_kind K.Ident = Some Ident
kept_kind K.Quoted = Some Quoted
kept_kind (K.Number d) = None
kept_kind K.End = None

-- The literals with perhaps one more, and a place at which this one stands.
pub record Holds (literals : List Literal) (literal : Literal) (after : List Literal) (place : ℕ) : Type 0 where
  pub added : List Literal
  pub more : after ≡ literals ++ added
  pub few : length added ≤ 1
  pub at : slice_get after place ≡ Some literal

-- The kept kind is that of a number whose literal has this place, in the row and at the place in the row.
abbrev pub IsInRows : ℕ → Kept → ℕ → Type 0
IsInRows place k size = (row : ℕ) × (k ≡ Number row) × (row * 65536 + size ≡ place)

-- what a token of this kind and length is kept as, a number by its literal
abbrev pub IsKeptAs : List Literal → TokenKind → ℕ → Kept → ℕ → Type 0
IsKeptAs ls (K.Number d) n k size = (row : ℕ) × (k ≡ Number row) × (in_row ls row size ≡ Some (record { value = d; length = n }))
IsKeptAs ls (K.Word w) n k size = (kept_kind (K.Word w) ≡ Some k) × (size ≡ n)
IsKeptAs ls K.Ident n k size = (kept_kind K.Ident ≡ Some k) × (size ≡ n)
IsKeptAs ls K.Quoted n k size = (kept_kind K.Quoted ≡ Some k) × (size ≡ n)
IsKeptAs ls (K.Symbol s) n k size = (kept_kind (K.Symbol s) ≡ Some k) × (size ≡ n)
IsKeptAs ls K.End n k size = (kept_kind K.End ≡ Some k) × (size ≡ n)

-- what is kept of a token; none of the end
abbrev pub IsKept : List Literal → Token → Option Found → Type 0
IsKept ls t None = t.kind ≡ K.End
IsKept ls t (Some f) = IsKeptAs ls t.kind (t.end - t.at) f.kind f.size × (f.at ≡ t.at)

-- The literals with perhaps one more, and what is kept of a token.
pub record Keeps (literals : List Literal) (t : Token) (after : List Literal) (found : Option Found) : Type 0 where
  pub added : List Literal
  pub more : after ≡ literals ++ added
  pub few : length added ≤ 1
  pub is : IsKept after t found

-- These are the tokens of the bytes, which have no fault.
pub record IsLexed (bytes : List ℕ) (literals : List Literal) (found : List Found) : Type 0 where
  pub tokens : Tokens bytes (map (lexeme_at bytes literals) found)
  pub faultless : TokenFaults bytes []

-- It is the first fault of the tokens; want of memory may come always.
abbrev pub IsTokenRefusal : List ℕ → Refused → Type 0
IsTokenRefusal bytes (Memory e) = Unit {0}
IsTokenRefusal bytes (At f) = IsFirstFault bytes f × (f.at ≤ length bytes)
