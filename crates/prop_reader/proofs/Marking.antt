-- Where quoted names are kept as names, they are seen as names.
use Rattle.std.proofs.Common.{◌≡◌, ℕ, Bool, true, false, List, [], ◌∷◌, map, Option, Some, None, refl, ap, ◌∙◌}
use Rattle.std.specs.Prelude.{if◌then◌else◌}
use Rattle.prism_lex.specs.declared.token.TokenKind.TheVariants as K
use Rattle.prism_lex.specs.Tokens.{Lexeme}
use Rattle.prism_exprs.specs.declared.tokens.Found.{Found}
use Rattle.prism_exprs.specs.declared.tokens.Kept.{Kept}
use Rattle.prism_exprs.specs.declared.tokens.Kept.TheVariants.{Word, Symbol, Ident, Quoted, Number}
use Rattle.prism_exprs.specs.declared.tokens.Literal.{Literal}
use Rattle.prism_exprs.specs.Kept.{is_ascii_text, lexeme_at, lexeme_by, literal_at, in_row, text_at, made}
use Rattle.prop_grammar.specs.Grammar.{as_name}
use Rattle.prop_reader.specs.Marks.{kept_name, named_found}

name_seen : (b : Bool) (w : List ℕ) (at : ℕ) → (if b then made K.Ident w at else made K.End w at) ≡ as_name (if b then made K.Ident w at else made K.End w at)
name_seen true w at = refl
name_seen false w at = refl

quoted_seen : (b : Bool) (w : List ℕ) (at : ℕ) → (if b then made K.Ident w at else made K.End w at) ≡ as_name (if b then made K.Quoted w at else made K.End w at)
quoted_seen true w at = refl
quoted_seen false w at = refl

literal_seen : (bytes : List ℕ) (n : Option Literal) (at : ℕ) → literal_at bytes n at ≡ as_name (literal_at bytes n at)
literal_seen bytes None at = refl
literal_seen bytes (Some l) at = refl

one_seen : (bytes : List ℕ) (literals : List Literal) (k : Kept) (at size : ℕ) → lexeme_by bytes literals (kept_name k) at size ≡ as_name (lexeme_by bytes literals k at size)
one_seen bytes literals (Word r) at size = refl
one_seen bytes literals (Symbol s) at size = refl
one_seen bytes literals Ident at size = name_seen (is_ascii_text (text_at bytes at size)) (text_at bytes at size) at
one_seen bytes literals Quoted at size = quoted_seen (is_ascii_text (text_at bytes at size)) (text_at bytes at size) at
one_seen bytes literals (Number row) at size = literal_seen bytes (in_row literals row size) at

pub marked_seen : (bytes : List ℕ) (literals : List Literal) (found : List Found) → map (lexeme_at bytes literals) (map named_found found) ≡ map as_name (map (lexeme_at bytes literals) found)
marked_seen bytes literals [] = refl
marked_seen bytes literals (f ∷ fs) =
    ap (λ (t : Lexeme). t ∷ map (lexeme_at bytes literals) (map named_found fs)) (one_seen bytes literals f.kind f.at f.size)
    ∙ ap (λ (ts : List Lexeme). as_name (lexeme_at bytes literals f) ∷ ts) (marked_seen bytes literals fs)
