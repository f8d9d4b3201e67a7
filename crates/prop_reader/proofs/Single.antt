-- One token that has a meaning.
use Rattle.std.proofs.Common.{◌≡◌, ℕ, Bool, List, [], ◌∷◌, ◌++◌, Option, Some, None, refl, sym, ap, ◌∙◌, map, length}
use Rattle.std.specs.Option.{option_map}
use Rattle.bridge_io.specs.declared.reason.Named.{Named}
use Rattle.prism_lex.specs.declared.token.TokenKind.TheVariants as K
use Rattle.prism_lex.specs.declared.symbols.Symbol.TheVariants as S
use Rattle.prism_lex.specs.Tokens.{Lexeme}
use Rattle.prism_tree.specs.Lang.{token_with}
use Rattle.prism_tree.specs.Grammar.{named, unquoted}
use Rattle.prism_exprs.specs.declared.tokens.Cause.TheVariants as C
use Rattle.prism_exprs.specs.declared.tokens.Found.{Found}
use Rattle.prism_exprs.specs.declared.tokens.Literal.{Literal}
use Rattle.prism_exprs.specs.declared.tokens.Kept.{Kept}
use Rattle.prism_exprs.specs.declared.tokens.Kept.TheVariants as H
use Rattle.prism_exprs.specs.Kept.{lexeme_by, literal_at, in_row, text_at}
use Rattle.prism_exprs.specs.Reading.{none, next, Reads}
use Rattle.prism_exprs.specs.Scope.{Scope, Halts}
use Rattle.prism_exprs.proofs.Laws.{HasWord, IsOne, none_ends, token_with_one}
use Rattle.prism_exprs.proofs.Choice.{Opens, Barred, token_with_opens}
use Rattle.std.specs.Prelude.{if◌then◌else◌, ◌&&◌}
use Rattle.prism_lex.specs.declared.token.TokenKind.{TokenKind}
use Rattle.prism_exprs.proofs.Keeping.{of_name}
use Rattle.prism_exprs.proofs.Symbols.{map_empty}
use Rattle.prism_items.proofs.Leading.{barred_halts}
use Rattle.prop_grammar.specs.declared.syntax.Compare.TheVariants as V
use Rattle.prop_grammar.specs.Grammar.{title, title_of, title_text, is_name, has_quotes, comparison, compared}
use Rattle.prop_reader.specs.Parts.{kept_comparison}

-- a token stands next that has no such meaning, or none stands next
pub token_with_barred : {A : Type 0} (meaning : Lexeme → Option A) (m : TokenKind → Bool) (ts : List Lexeme) → ((t : Lexeme) (rest : List Lexeme) → ts ≡ t ∷ rest → meaning t ≡ None) → Barred (token_with meaning) m ts
unfolding token_with
token_with_barred {A} meaning m ts never other w z x e f h g =
    front ts h.0 (sym (ap next (sym (f ∙ ap (λ (u : List Lexeme). u ++ z) h.1)) ∙ e)) (λ rest q. let n : meaning h.0 ≡ None = never h.0 rest q in let o : meaning h.0 ≡ Some x = h.2 in absurd cc)
  where
    front : (ts : List Lexeme) (t : Lexeme) → next ts ≡ Some t → ((rest : List Lexeme) → ts ≡ t ∷ rest → ⊥) → ⊥
    front [] t e f = absurd cc
    front (s ∷ ts) t e f = f ts (let h : s ≡ t = cc in ap (λ (u : Lexeme). u ∷ ts) h)

pub meaning_read : {A : Type 0} (m : Lexeme → Option A) (f : Found → Lexeme) (found xs : List Found) (x : Found) (r : List Lexeme) (a : A) → found ≡ x ∷ xs → m (f x) ≡ Some a → r ≡ map f xs →
    Reads (token_with m) none (map f found) a r
unfolding token_with
meaning_read m f found xs x r a e h g = record {
  word = f x ∷ [];
  parts = ap (λ (u : List Found). map f u) e ∙ ap (λ (u : List Lexeme). f x ∷ u) (sym g);
  spells = (f x, refl, h);
  ends = none_ends r;
}

pub meaning_other : {A : Type 0} (m : Lexeme → Option A) (f : Found → Lexeme) (found xs : List Found) (x : Found) → HasWord (token_with m) → found ≡ x ∷ xs → m (f x) ≡ None → (s : Scope) →
    Halts s C.Form (token_with m) none (map f found) (map f found)
meaning_other m f found xs x word e h s = barred_halts (token_with m) none (map f found) s word (token_with_barred m none (map f found) (λ t rest q.
    let g : f x ∷ map f xs ≡ t ∷ rest = sym (ap (λ (u : List Found). map f u) e) ∙ q in
    let i : f x ≡ t = cc in
    ap m (sym i) ∙ h))

pub meaning_missing : {A : Type 0} (m : Lexeme → Option A) (f : Found → Lexeme) (found : List Found) → HasWord (token_with m) → length found ≡ 0 → (s : Scope) →
    Halts s C.Form (token_with m) none (map f found) (map f found)
meaning_missing m f found word e s = barred_halts (token_with m) none (map f found) s word (token_with_barred m none (map f found) (λ t rest q.
    let g : [] ≡ t ∷ rest = sym (map_empty f found e) ∙ q in
    absurd cc))

-- ---- names between quotes

pub title_word : HasWord title
unfolding token_with
title_word = let t : Lexeme = record { kind = K.Ident; text = 34 ∷ []; at = 0 } in (t ∷ [], named [] 0, (t, refl, refl))

pub title_one : IsOne title none
title_one = token_with_one title_of none

pub title_opens : Opens title (λ k. k ≡ K.Ident)
title_opens = token_with_opens title_of (λ k. k ≡ K.Ident) (λ t x h. by_kind t x t.kind refl h)
  where
    by_kind : (t : Lexeme) (x : Named) (k : TokenKind) → t.kind ≡ k → option_map (λ w. named (unquoted w) t.at) (if is_name k && has_quotes t.text then Some t.text else None) ≡ Some x → t.kind ≡ K.Ident
    by_kind t x K.Ident e h = e
    by_kind t x (K.Word r) e h = absurd cc
    by_kind t x (K.Symbol r) e h = absurd cc
    by_kind t x K.Quoted e h = absurd cc
    by_kind t x (K.Number d) e h = absurd cc
    by_kind t x K.End e h = absurd cc

pub title_read : (f : Found → Lexeme) (found xs : List Found) (x : Found) (r : List Lexeme) (w v : List ℕ) (at : ℕ) → found ≡ x ∷ xs → title_text (f x) ≡ Some w → v ≡ unquoted w → at ≡ (f x).at → r ≡ map f xs →
    Reads title none (map f found) (named v at) r
title_read f found xs x r w v at e h p q g =
    let i : option_map (λ u. named (unquoted u) (f x).at) (title_text (f x)) ≡ Some (named (unquoted w) (f x).at) = ap (option_map (λ u. named (unquoted u) (f x).at)) h in
    let j : named (unquoted w) (f x).at ≡ named v at = ap (λ (u : List ℕ). named u (f x).at) (sym p) ∙ ap (λ (m : ℕ). named v m) (sym q) in
    meaning_read title_of f found xs x r (named v at) e (i ∙ ap (λ (n : Named). Some n) j) g

pub no_title : (t : Lexeme) → title_text t ≡ None → title_of t ≡ None
no_title t h = ap (option_map (λ u. named (unquoted u) t.at)) h

-- ---- comparisons

pub comparison_word : HasWord comparison
unfolding token_with
comparison_word = let t : Lexeme = record { kind = K.Symbol S.Less; text = []; at = 0 } in (t ∷ [], V.Less, (t, refl, refl))

pub comparison_one : IsOne comparison none
comparison_one = token_with_one (λ t. compared t.kind) none

compared_literal : (bytes : List ℕ) (n : Option Literal) (at : ℕ) → compared (literal_at bytes n at).kind ≡ None
compared_literal bytes None at = refl
compared_literal bytes (Some l) at = refl

pub comparison_kept : (bytes : List ℕ) (literals : List Literal) (k : Kept) (at size : ℕ) → compared (lexeme_by bytes literals k at size).kind ≡ kept_comparison k
comparison_kept bytes literals (H.Word r) at size = refl
comparison_kept bytes literals (H.Symbol S.Less) at size = refl
comparison_kept bytes literals (H.Symbol S.AtMost) at size = refl
comparison_kept bytes literals (H.Symbol S.AtLeast) at size = refl
comparison_kept bytes literals (H.Symbol S.Greater) at size = refl
comparison_kept bytes literals (H.Symbol a) at size = refl
comparison_kept bytes literals H.Ident at size = of_name _ K.Ident (text_at bytes at size) at compared None refl refl
comparison_kept bytes literals H.Quoted at size = of_name _ K.Quoted (text_at bytes at size) at compared None refl refl
comparison_kept bytes literals (H.Number row) at size = compared_literal bytes (in_row literals row size) at
