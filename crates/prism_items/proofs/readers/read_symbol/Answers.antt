use Rattle.std.proofs.Common.{rules}
use Rattle.prism_lex.specs.declared.token.TokenKind.TheVariants as K
use Rattle.prism_exprs.proofs.Symbols.{symbol_itself}
use Rattle.prism_items.proofs.Seen.{first_read, not_next, none_next}
use Rattle.prism_items.proofs.readers.read_symbol.Goals as goal

pub returns-in_default : goal.returns-in_default
returns-in_default c = none_next _ (K.Symbol c.args.wanted) _ (symbol_itself c.args.wanted) c.in_default.ensures.cases

pub returns-then-not-symbol_next : goal.returns-then-not-symbol_next
returns-then-not-symbol_next c = not_next (K.Symbol c.args.wanted) _ (symbol_itself c.args.wanted) (search rules)

pub returns : goal.returns
returns c = λ s. first_read _ (K.Symbol c.args.wanted) _ _ _ _ c.in-Some.ensures.cases.0 (search rules) c.with.ensures
