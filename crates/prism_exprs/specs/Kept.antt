-- The tokens that the code keeps, as the grammar sees them.
use Rattle.std.specs.Prelude.{ℕ, ◌+◌, ◌*◌, Bool, false, List, [], map, take, drop, Option, Some, None, slice_get, if◌then◌else◌}
use Rattle.std.specs.Char.{is_ascii}
use Rattle.std.specs.List.{list_all}
use Rattle.prism_lex.specs.declared.token.TokenKind.{TokenKind}
use Rattle.prism_lex.specs.declared.token.TokenKind.TheVariants as K
use Rattle.prism_lex.specs.Tokens.{Lexeme}
use Rattle.prism_lex.specs.declared.words.Reserved.{Reserved}
use Rattle.prism_lex.specs.declared.symbols.Symbol.{Symbol as PrismSymbol}
use Rattle.prism_lex.specs.contracts.words.Reserved.{the_type as words}
use Rattle.prism_lex.specs.contracts.symbols.Symbol.{the_type as symbols}
use denote.Enum.Bare.{sameb}
use Rattle.prism_tree.specs.declared.operator.PrismOp.{PrismOp}
use Rattle.prism_tree.specs.Grammar.{infix_at}
use Rattle.prism_exprs.specs.declared.tokens.Kept.{Kept}
use Rattle.prism_exprs.specs.declared.tokens.Kept.TheVariants.{Word, Symbol, Ident, Quoted, Number}
use Rattle.prism_exprs.specs.declared.tokens.Found.{Found}
use Rattle.prism_exprs.specs.declared.tokens.Literal.{Literal}
use Rattle.prism_exprs.specs.declared.tokens.Tokens.{Tokens}

abbrev pub text_at : List ℕ → ℕ → ℕ → List ℕ
text_at bytes at size = take size (drop at bytes)

abbrev pub made : TokenKind → List ℕ → ℕ → Lexeme
made kind text at = record { kind = kind; text = text; at = at }

abbrev pub is_ascii_text : List ℕ → Bool
is_ascii_text w = list_all is_ascii w

-- Names are ASCII. A name that isn't, or a number that is no literal, is seen as an end, which no grammar reads.
abbrev pub name_at : TokenKind → List ℕ → ℕ → Lexeme
name_at kind text at = if is_ascii_text text then made kind text at else made K.End text at

abbrev pub literal_at : List ℕ → Option Literal → ℕ → Lexeme
literal_at bytes None at = made K.End [] at
literal_at bytes (Some n) at = made (K.Number n.value) (take n.length (drop at bytes)) at

-- Literals stand in rows of 65,536.
abbrev pub in_row : List Literal → ℕ → ℕ → Option Literal
in_row literals row place = slice_get literals (row * 65536 + place)

abbrev pub lexeme_by : List ℕ → List Literal → Kept → ℕ → ℕ → Lexeme
lexeme_by bytes literals (Word r) at size = made (K.Word r) (text_at bytes at size) at
lexeme_by bytes literals (Symbol s) at size = made (K.Symbol s) (text_at bytes at size) at
lexeme_by bytes literals Ident at size = name_at K.Ident (text_at bytes at size) at
lexeme_by bytes literals Quoted at size = name_at K.Quoted (text_at bytes at size) at
lexeme_by bytes literals (Number row) at size = literal_at bytes (in_row literals row size) at

abbrev pub lexeme_at : List ℕ → List Literal → Found → Lexeme
lexeme_at bytes literals f = lexeme_by bytes literals f.kind f.at f.size

abbrev pub seen : Tokens → List Lexeme
seen t = map (lexeme_at t.source.now.bytes.now t.source.now.literals.now) t.found.now

-- ---- what the code looks at

abbrev pub kept_symbol : Kept → PrismSymbol → Bool
kept_symbol (Symbol a) b = sameb symbols a b
kept_symbol (Word _) b = false
kept_symbol Ident b = false
kept_symbol Quoted b = false
kept_symbol (Number _) b = false

abbrev pub kept_word : Kept → Reserved → Bool
kept_word (Word a) b = sameb words a b
kept_word (Symbol _) b = false
kept_word Ident b = false
kept_word Quoted b = false
kept_word (Number _) b = false

abbrev pub kept_infix : Kept → Option (ℕ × PrismOp)
kept_infix (Symbol s) = infix_at s
kept_infix (Word _) = None
kept_infix Ident = None
kept_infix Quoted = None
kept_infix (Number _) = None
