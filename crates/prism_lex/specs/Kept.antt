-- The tokens of a text as they are kept: its names and numbers once, in tables, and what each token is.
use Rattle.std.specs.Prelude.{◌≡◌, ◌≢◌, ℕ, ◌+◌, ◌*◌, ◌≤◌, nat_lt, Bool, true, List, [], ◌∷◌, ◌++◌, map, length, take, drop, slice_get, Option, Some, None, if◌then◌else◌}
use Rattle.std.specs.Char.{is_ascii}
use Rattle.std.specs.List.{list_all}
use Rattle.bridge_io.specs.declared.reason.Refused.{Refused}
use Rattle.bridge_io.specs.declared.reason.Refused.TheVariants.{Memory, At}
use Rattle.frac_core.specs.declared.decimal.Decimal.{Decimal}
use Rattle.prism_lex.specs.declared.token.TokenKind.{TokenKind}
use Rattle.prism_lex.specs.declared.token.TokenKind.TheVariants as K
use Rattle.prism_lex.specs.declared.kept.Kept.{Kept}
use Rattle.prism_lex.specs.declared.kept.Kept.TheVariants.{Word, Symbol, Ident, Quoted, Number}
use Rattle.prism_lex.specs.declared.kept.Found.{Found}
use Rattle.prism_lex.specs.declared.kept.Lexed.{Lexed}
use Rattle.prism_lex.specs.Tokens.{Lexeme, Tokens, TokenFaults}
use Rattle.prism_lex.specs.Laws.{IsFirstFault}
use Rattle.prism_lex.specs.Alike.{is_named, AreAlike}

abbrev pub made : TokenKind → List ℕ → ℕ → Lexeme
made kind text at = record { kind = kind; text = text; at = at }

abbrev pub is_ascii_text : List ℕ → Bool
is_ascii_text w = list_all is_ascii w

-- ---- the tables

-- In the table of names stands the length of each text in two bytes, the low one first, and behind it the text. None where there are fewer.
abbrev pub front_name : List ℕ → Option (List ℕ)
front_name [] = None
front_name (low ∷ []) = None
front_name (low ∷ high ∷ w) = if nat_lt (length w) (low + 256 * high) then None else Some (take (low + 256 * high) w)

abbrev pub name_from : List ℕ → ℕ → Option (List ℕ)
name_from names place = front_name (drop place names)

-- Names are ASCII.
abbrev pub if_ascii : Option (List ℕ) → Option (List ℕ)
if_ascii None = None
if_ascii (Some w) = if is_ascii_text w then Some w else None

-- A token has the row and the place in the row of its name or number. Rows have 65,536 places.
abbrev pub in_rows : ℕ → ℕ → ℕ
in_rows row place = row * 65536 + place

abbrev pub name_in : List ℕ → ℕ → ℕ → Option (List ℕ)
name_in names row place = if_ascii (name_from names (in_rows row place))

abbrev pub number_in : List Decimal → ℕ → ℕ → Option Decimal
number_in literals row place = slice_get literals (in_rows row place)

-- ---- what the grammar sees

-- A name or a number that stands in no table is seen as an end, which no grammar reads. Only names have a text.
abbrev pub named_at : TokenKind → Option (List ℕ) → ℕ → Lexeme
named_at kind None at = made K.End [] at
named_at kind (Some w) at = made kind w at

abbrev pub number_at : Option Decimal → ℕ → Lexeme
number_at None at = made K.End [] at
number_at (Some d) at = made (K.Number d) [] at

abbrev pub lexeme_by : List ℕ → List Decimal → Kept → ℕ → ℕ → Lexeme
lexeme_by names literals (Word r) at size = made (K.Word r) [] at
lexeme_by names literals (Symbol s) at size = made (K.Symbol s) [] at
lexeme_by names literals (Ident row) at size = named_at K.Ident (name_in names row size) at
lexeme_by names literals (Quoted row) at size = named_at K.Quoted (name_in names row size) at
lexeme_by names literals (Number row) at size = number_at (number_in literals row size) at

abbrev pub lexeme_at : List ℕ → List Decimal → Found → Lexeme
lexeme_at names literals f = lexeme_by names literals f.kind f.at f.size

abbrev pub lexemes : Lexed → List Lexeme
lexemes l = map (lexeme_at l.names l.literals) l.found

-- ---- whose tokens they are

-- None of the tokens is an end.
abbrev pub HasNoEnd : List Lexeme → Type 0
HasNoEnd [] = Unit {0}
HasNoEnd (l ∷ ls) = (l.kind ≢ K.End) × HasNoEnd ls

-- These are the tokens that are kept.
pub record Keeps (l : Lexed) (ls : List Lexeme) : Type 0 where
  pub alike : AreAlike (lexemes l) ls
  pub full : HasNoEnd (lexemes l)

-- what is kept of the text of a token of this kind
abbrev pub spelled : TokenKind → List ℕ → List ℕ
spelled K.Ident w = w
spelled K.Quoted w = w
spelled (K.Word _) w = []
spelled (K.Symbol _) w = []
spelled (K.Number _) w = []
spelled K.End w = []

-- The token is of this kind, has this text, if it is a name, and stands at this offset.
pub record IsOf (k : TokenKind) (w : List ℕ) (n : ℕ) (l : Lexeme) : Type 0 where
  pub kind : l.kind ≡ k
  pub at : l.at ≡ n
  pub text : is_named k ≡ true → l.text ≡ w

-- It is the text of a token of this kind, if that is a name, and ASCII.
pub record IsNameOf (k : TokenKind) (w name : List ℕ) : Type 0 where
  pub text : is_named k ≡ true → w ≡ name
  pub ascii : is_ascii_text name ≡ true

-- These are the tokens of the bytes, which have no fault.
pub record IsLexed (bytes : List ℕ) (l : Lexed) : Type 0 where
  pub tokens : (ls : List Lexeme) × Tokens bytes ls × AreAlike (lexemes l) ls
  pub end : l.end ≡ length bytes
  pub faultless : TokenFaults bytes []

-- It is the first fault of the tokens; want of memory may come always.
abbrev pub IsTokenRefusal : List ℕ → Refused → Type 0
IsTokenRefusal bytes (Memory e) = Unit {0}
IsTokenRefusal bytes (At f) = IsFirstFault bytes f × (f.at ≤ length bytes)

-- ---- how the tables grow

-- The tables are those with more behind them.
pub record Grows (ns : List ℕ) (ds : List Decimal) (ns' : List ℕ) (ds' : List Decimal) : Type 0 where
  pub more_names : List ℕ
  pub more_literals : List Decimal
  pub names : ns' ≡ ns ++ more_names
  pub literals : ds' ≡ ds ++ more_literals

-- The name stands at this place of the table, which has perhaps more behind it.
pub record HoldsName (names : List ℕ) (name : List ℕ) (after : List ℕ) (place : ℕ) : Type 0 where
  pub more : List ℕ
  pub grows : after ≡ names ++ more
  pub at : name_from after place ≡ Some name

-- The number stands at this place.
pub record HoldsNumber (literals : List Decimal) (number : Decimal) (after : List Decimal) (place : ℕ) : Type 0 where
  pub more : List Decimal
  pub grows : after ≡ literals ++ more
  pub at : slice_get after place ≡ Some number

-- What is kept of a token with this kind and name, which is no end.
pub record Holds (before after : Lexed) (kind : TokenKind) (name : List ℕ) (k : Kept) (size : ℕ) : Type 0 where
  pub no_end : kind ≢ K.End
  pub found : after.found ≡ before.found
  pub grows : Grows before.names before.literals after.names after.literals
  pub is : (at : ℕ) → lexeme_by after.names after.literals k at size ≡ made kind (spelled kind name) at
