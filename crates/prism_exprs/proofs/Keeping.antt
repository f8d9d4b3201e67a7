-- Tokens as they are kept, and as the grammar sees them.
use Rattle.std.proofs.Common.{◌≡◌, ℕ, Bool, true, false, List, Option, Some, None, refl}
use Rattle.std.specs.Prelude.{if◌then◌else◌}
use Rattle.prism_lex.specs.declared.token.TokenKind.{TokenKind}
use Rattle.prism_lex.specs.declared.token.TokenKind.TheVariants as K
use Rattle.prism_lex.specs.declared.symbols.Symbol.{Symbol as PrismSymbol}
use Rattle.prism_exprs.specs.declared.tokens.Kept.{Kept}
use Rattle.prism_exprs.specs.declared.tokens.Kept.TheVariants.{Word, Symbol, Ident, Quoted, Number}
use Rattle.prism_exprs.specs.declared.tokens.Literal.{Literal}
use Rattle.prism_exprs.specs.Kept.{is_ascii_text, lexeme_by, literal_at, in_row, text_at, made, kept_symbol, kept_infix}
use Rattle.prism_exprs.specs.Reading.{same_kind}
use Rattle.prism_tree.specs.Grammar.{infix_of}

-- what is seen of a name that may not be ASCII
pub of_name : {A : Type 0} (b : Bool) (k : TokenKind) (w : List ℕ) (at : ℕ) (f : TokenKind → A) (x : A) → f k ≡ x → f K.End ≡ x → f (if b then made k w at else made K.End w at).kind ≡ x
of_name true k w at f x g h = g
of_name false k w at f x g h = h

-- what is seen of a number that may be no literal
pub of_literal : {A : Type 0} (bytes : List ℕ) (n : Option Literal) (at : ℕ) (f : TokenKind → A) (x : A) → ((l : Literal) → f (K.Number l.value) ≡ x) → f K.End ≡ x → f (literal_at bytes n at).kind ≡ x
of_literal bytes None at f x g h = h
of_literal bytes (Some l) at f x g h = g l

pub symbol_kept : (bytes : List ℕ) (literals : List Literal) (k : Kept) (at size : ℕ) (b : PrismSymbol) → same_kind (lexeme_by bytes literals k at size).kind (K.Symbol b) ≡ kept_symbol k b
symbol_kept bytes literals (Word r) at size b = refl
symbol_kept bytes literals (Symbol a) at size b = refl
symbol_kept bytes literals Ident at size b = of_name (is_ascii_text (text_at bytes at size)) K.Ident (text_at bytes at size) at (λ k. same_kind k (K.Symbol b)) false refl refl
symbol_kept bytes literals Quoted at size b = of_name (is_ascii_text (text_at bytes at size)) K.Quoted (text_at bytes at size) at (λ k. same_kind k (K.Symbol b)) false refl refl
symbol_kept bytes literals (Number row) at size b = of_literal bytes (in_row literals row size) at (λ k. same_kind k (K.Symbol b)) false (λ l. refl) refl

pub infix_kept : (bytes : List ℕ) (literals : List Literal) (k : Kept) (at size : ℕ) → infix_of (lexeme_by bytes literals k at size).kind ≡ kept_infix k
infix_kept bytes literals (Word r) at size = refl
infix_kept bytes literals (Symbol a) at size = refl
infix_kept bytes literals Ident at size = of_name (is_ascii_text (text_at bytes at size)) K.Ident (text_at bytes at size) at infix_of None refl refl
infix_kept bytes literals Quoted at size = of_name (is_ascii_text (text_at bytes at size)) K.Quoted (text_at bytes at size) at infix_of None refl refl
infix_kept bytes literals (Number row) at size = of_literal bytes (in_row literals row size) at infix_of None (λ l. refl) refl

place_of_name : (b : Bool) (k : TokenKind) (w : List ℕ) (at : ℕ) → (if b then made k w at else made K.End w at).at ≡ at
place_of_name true k w at = refl
place_of_name false k w at = refl

place_of_literal : (bytes : List ℕ) (n : Option Literal) (at : ℕ) → (literal_at bytes n at).at ≡ at
place_of_literal bytes None at = refl
place_of_literal bytes (Some l) at = refl

pub place_kept : (bytes : List ℕ) (literals : List Literal) (k : Kept) (at size : ℕ) → (lexeme_by bytes literals k at size).at ≡ at
place_kept bytes literals (Word r) at size = refl
place_kept bytes literals (Symbol a) at size = refl
place_kept bytes literals Ident at size = place_of_name (is_ascii_text (text_at bytes at size)) K.Ident (text_at bytes at size) at
place_kept bytes literals Quoted at size = place_of_name (is_ascii_text (text_at bytes at size)) K.Quoted (text_at bytes at size) at
place_kept bytes literals (Number row) at size = place_of_literal bytes (in_row literals row size) at
