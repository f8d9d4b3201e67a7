-- Each property that bytes without fault spell has a short name, if any.
use Rattle.std.proofs.Common.{◌≡◌, ℕ, ◌≤◌, Bool, true, false, ◌&&◌, cond, List, [], map, length, Option, Some, None, option_map, refl, subst, arith}
use Rattle.std.specs.List.{AllByRecursion as Each}
use Rattle.basics.specs.Each.{each_map}
use Rattle.basics.specs.Options.{IfAny}
use Rattle.bridge_io.specs.declared.reason.Named.{Named}
use Rattle.bridge_io.specs.declared.reason.Fault.{Fault}
use Rattle.prism_lex.specs.declared.token.TokenKind.{TokenKind}
use Rattle.prism_lex.specs.declared.token.TokenKind.TheVariants as K
use Rattle.prism_lex.specs.Tokens.{Lexeme, TokenFaults, refusal}
use Rattle.prism_tree.specs.Syntax.{Expression}
use Rattle.prism_tree.specs.Lang.{Lang}
use Rattle.prism_tree.specs.Grammar.{named, unquoted, expr}
use Rattle.prop_grammar.specs.Grammar.{name_kind, as_name, has_quotes, is_name, title_of, title, probability_query, reward_query, query, titled_query, titled, property, properties}
use Rattle.prop_grammar.specs.Faults.{SyntaxFaults, of_tokens, of_grammar, none, operand}
use Rattle.prism_print.proofs.Keeping.{Keeps, then_keeps, any_then, gives_keeps, or_keeps, token_with_keeps, many_keeps}
use Rattle.short_names.specs.ShortNames.{ShortNamed}
use Rattle.short_names.specs.Laws.{HasShortTitle, PropertyNamesAreShort}
use Rattle.short_names.proofs.Tokens.{IsAccepted, faultless_accepted, within, unquoted_within}

-- a name between quotes, with its quotes, has at most 257 bytes
abbrev IsWithin : Lexeme → Type 0
IsWithin t = t.kind ≡ K.Ident → length t.text ≤ 257

kind_within : (k : TokenKind) (w : List ℕ) → refusal k w ≡ None → name_kind k ≡ K.Ident → length w ≤ 257
kind_within K.Quoted w a e = within 257 (length w) a
kind_within K.Ident w a e = let s = within 255 (length w) a in omega (arith, s)
kind_within k w a e = absurd cc

tokens_within : (ts : List Lexeme) → Each IsAccepted ts → Each IsWithin (map as_name ts)
tokens_within ts a = each_map IsAccepted IsWithin as_name (λ t h. kind_within t.kind t.text h) ts a

name_is : (k : TokenKind) → is_name k ≡ true → k ≡ K.Ident
name_is K.Ident e = refl
name_is k e = absurd cc

title_good : (t : Lexeme) (a : Named) → IsWithin t → title_of t ≡ Some a → ShortNamed a
title_good t a h e = by_kind (is_name t.kind) (has_quotes t.text) refl e
  where
    by_kind : (b c : Bool) → is_name t.kind ≡ b → option_map (λ w. named (unquoted w) t.at) (cond (b && c) (Some t.text) None) ≡ Some a → ShortNamed a
    by_kind true true q e = let i : named (unquoted t.text) t.at ≡ a = cc in subst ShortNamed i (unquoted_within t.text (h (name_is t.kind q)))
    by_kind true false q e = absurd cc
    by_kind false c q e = absurd cc

title_keeps : Keeps IsWithin title ShortNamed
title_keeps = token_with_keeps title_of title_good

module _ (E B : Lang Expression) where
  query_keeps : (n : Option Named) → IfAny ShortNamed n → Keeps IsWithin (query E B n) HasShortTitle
  unfolding query probability_query reward_query
  query_keeps n h =
      or_keeps (any_then _ (λ a. any_then _ (λ t. any_then _ (λ p. any_then _ (λ u. gives_keeps _ h)))))
      (any_then _ (λ a. any_then _ (λ t. any_then _ (λ p. any_then _ (λ u. gives_keeps _ h)))))

  titled_keeps : Keeps IsWithin (titled E B) HasShortTitle
  unfolding titled titled_query
  titled_keeps = or_keeps (query_keeps None tt) (then_keeps title_keeps (λ x h. any_then _ (λ t. query_keeps (Some x) h)))

  property_keeps : Keeps IsWithin (property E B) HasShortTitle
  unfolding property
  property_keeps = then_keeps titled_keeps (λ p h. any_then _ (λ t. gives_keeps p h))

  properties_keep : Keeps IsWithin (properties E B) (Each HasShortTitle)
  unfolding properties
  properties_keep = many_keeps (property E B) property_keeps

pub property_names : PropertyNamesAreShort
property_names bytes ps clean s =
    (properties_keep expr operand).keeps (map as_name s.tokens) ps (tokens_within s.tokens (faultless_accepted bytes s.tokens (tokens_clean bytes [] refl clean) s.are_tokens)) s.spelled
  where
    tokens_clean : (bytes : List ℕ) (fs : List Fault) → fs ≡ [] → SyntaxFaults bytes fs → TokenFaults bytes []
    tokens_clean bytes fs e (of_tokens g gs t) = absurd cc
    tokens_clean bytes fs e (of_grammar ts g t r i) = t
    tokens_clean bytes fs e (none ts x t r w) = t
