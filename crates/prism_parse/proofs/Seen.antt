-- What the code sees of a kept token is what the definitions see of its lexeme.
use Rattle.std.proofs.Common.{◌≡◌, ℕ, Bool, true, false, List, refl, sym, ap, ◌∙◌}
use Rattle.std.specs.Prelude.{if◌then◌else◌}
use Rattle.prism_lex.specs.declared.token.TokenKind.TheVariants as K
use Rattle.prism_tree.specs.Faults.{left_out_functions}
use Rattle.prism_exprs.specs.declared.tokens.Cause.{Cause}
use Rattle.prism_exprs.specs.declared.tokens.Kept.{Kept}
use Rattle.prism_exprs.specs.declared.tokens.Kept.TheVariants.{Word, Symbol, Ident, Quoted, Number}
use Rattle.prism_exprs.specs.declared.tokens.Literal.{Literal}
use Rattle.prism_exprs.specs.Kept.{is_ascii_text, lexeme_by, in_row, text_at, made}
use Rattle.prism_exprs.proofs.Keeping.{of_name, of_literal}
use Rattle.bridge_io.specs.declared.reason.Reason.TheVariants.{Syntax}
use Rattle.prism_parse.specs.Reasons.{form_reason, kept_reason, is_left_out_text, is_left_out_name}
use Rattle.prism_parse.proofs.Told.{all_contained, text_is}

pub reason_kept : (bytes : List ℕ) (literals : List Literal) (at size : ℕ) (c : Cause) (k : Kept) (called : Bool) → form_reason c (lexeme_by bytes literals k at size).kind called ≡ kept_reason c k called
reason_kept bytes literals at size c (Word r) called = refl
reason_kept bytes literals at size c (Symbol s) called = refl
reason_kept bytes literals at size c Ident called = of_name (is_ascii_text (text_at bytes at size)) K.Ident (text_at bytes at size) at (λ k. form_reason c k called) Syntax refl refl
reason_kept bytes literals at size c Quoted called = of_name (is_ascii_text (text_at bytes at size)) K.Quoted (text_at bytes at size) at (λ k. form_reason c k called) Syntax refl refl
reason_kept bytes literals at size c (Number row) called = of_literal bytes (in_row literals row size) at (λ k. form_reason c k called) Syntax (λ l. refl) refl

-- The names of the functions are ASCII.
left_out_text : (w : List ℕ) → is_left_out_text w ≡ true → is_ascii_text w ≡ true
left_out_text w e = all_contained is_ascii_text left_out_functions w refl (text_is w e)

pub name_kept : (bytes : List ℕ) (literals : List Literal) (k : Kept) (at size : ℕ) → k ≡ Ident → is_left_out_name (lexeme_by bytes literals k at size) ≡ is_left_out_text (text_at bytes at size)
name_kept bytes literals k at size e = ap (λ (j : Kept). is_left_out_name (lexeme_by bytes literals j at size)) e ∙ go (is_ascii_text w) (is_left_out_text w) refl refl
  where
    w : List ℕ
    w = text_at bytes at size

    go : (b d : Bool) → is_ascii_text w ≡ b → is_left_out_text w ≡ d → is_left_out_name (if b then made K.Ident w at else made K.End w at) ≡ is_left_out_text w
    go true d e f = refl
    go false false e f = sym f
    go false true e f = let g = left_out_text w f in absurd cc
