use Rattle.std.proofs.Common.{drop, ◌∙◌, sym, ap}
use Rattle.prism_lex.specs.declared.token.TokenKind.TheVariants as K
use Rattle.prism_lex.specs.declared.symbols.Symbol.TheVariants as S
use Rattle.prism_exprs.specs.Reading.{is_kind, starts}
use Rattle.prism_exprs.specs.Kept.{seen}
use Rattle.prism_items.proofs.Updating.{plain_true, plain_no_open, plain_no_name, plain_name}
use Rattle.prism_items.proofs.updates.is_plain.Goals as goal

pub returns-then-word_next : goal.returns-then-word_next
returns-then-word_next c = c.symbol_next.ensures ∙ ap (starts (is_kind (K.Symbol S.Semicolon))) c.behind-second.ensures ∙ plain_true (seen c.args.tokens) (sym c.word_next.ensures ∙ c.if-word_next.true)

pub returns-then-not-symbol_next : goal.returns-then-not-symbol_next
returns-then-not-symbol_next c = plain_no_open (seen c.args.tokens) (sym c.word_next.ensures ∙ c.if-word_next.false) (sym c.symbol_next-2.ensures ∙ c.if-not-symbol_next.true)

pub returns-then-not-name_next : goal.returns-then-not-name_next
returns-then-not-name_next c = plain_no_name (seen c.args.tokens) (sym c.word_next.ensures ∙ c.if-word_next.false) (sym c.symbol_next-2.ensures ∙ c.if-not-symbol_next.false) (ap (starts (is_kind K.Ident)) (sym c.behind-second.ensures) ∙ sym c.name_next.ensures ∙ c.if-not-name_next.true)

pub returns : goal.returns
returns c = c.symbol_next-3.ensures ∙ ap (starts (is_kind (K.Symbol S.Prime))) (c.behind.ensures ∙ ap (drop 1) c.behind-second.ensures) ∙ plain_name (seen c.args.tokens) (sym c.word_next.ensures ∙ c.if-word_next.false) (sym c.symbol_next-2.ensures ∙ c.if-not-symbol_next.false) (ap (starts (is_kind K.Ident)) (sym c.behind-second.ensures) ∙ sym c.name_next.ensures ∙ c.if-not-name_next.false)
