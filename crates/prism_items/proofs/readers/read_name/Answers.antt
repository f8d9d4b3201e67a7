use Rattle.std.proofs.Common.{refl, sym}
use Rattle.prism_lex.specs.declared.token.TokenKind.TheVariants as K
use Rattle.prism_tree.specs.Grammar.{name}
use Rattle.prism_exprs.proofs.Keeping.{place_kept}
use Rattle.prism_exprs.proofs.Symbols.{starts_empty}
use Rattle.prism_items.proofs.Seen.{text_read, text_missing, text_other}
use Rattle.prism_items.proofs.readers.read_name.Goals as goal

pub returns-in_default : goal.returns-in_default
unfolding name
returns-in_default c = text_missing K.Ident (λ w. w) _ refl (starts_empty _ _ _ c.in_default.ensures.cases)

pub returns-in_default-identifier : goal.returns-in_default-identifier
unfolding name
returns-in_default-identifier c = text_missing K.Ident (λ w. w) _ refl (text_other _ _ _ _ _ c.in-Some.ensures.cases.0 c.in_default-identifier.ensures.none)

pub returns : goal.returns
unfolding name
returns c = λ s. text_read _ K.Ident (λ w. w) _ _ c.in-Some.first.now _ _ _ _ c.in-Some.ensures.cases.0 c.in-Some-identifier.ensures.some c.in_ok-name.ensures (sym (place_kept _ _ c.in-Some.first.now.kind c.in-Some.first.now.at c.in-Some.first.now.size)) c.with.ensures
