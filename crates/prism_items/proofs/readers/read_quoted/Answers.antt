use Rattle.std.proofs.Common.{refl, sym, ◌∙◌}
use Rattle.prism_lex.specs.declared.token.TokenKind.TheVariants as K
use Rattle.prism_tree.specs.Grammar.{quoted, unquoted}
use Rattle.prism_exprs.proofs.Keeping.{place_kept}
use Rattle.prism_exprs.proofs.Symbols.{starts_empty}
use Rattle.prism_items.proofs.Seen.{text_read, text_missing, text_other}
use Rattle.prism_items.proofs.readers.read_quoted.Goals as goal

pub returns-in_default : goal.returns-in_default
unfolding quoted
returns-in_default c = text_missing K.Quoted unquoted _ refl (starts_empty _ _ _ c.in_default.ensures.cases)

pub returns-in_default-quotation : goal.returns-in_default-quotation
unfolding quoted
returns-in_default-quotation c = text_missing K.Quoted unquoted _ refl (text_other _ _ _ _ _ c.in-Some.ensures.cases.0 c.in_default-quotation.ensures.none)

pub returns : goal.returns
unfolding quoted
returns c = λ s. text_read _ K.Quoted unquoted _ _ c.in-Some.first.now _ _ _ _ c.in-Some.ensures.cases.0 c.in-Some-quotation.ensures.some (c.in_ok-name.ensures ∙ c.between.ensures) (sym (place_kept _ _ c.in-Some.first.now.kind c.in-Some.first.now.at c.in-Some.first.now.size)) c.with.ensures
