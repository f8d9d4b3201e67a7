use Rattle.std.specs.Prelude.{None}
use Rattle.std.specs.Option.{option_map}
use Rattle.std.proofs.Common.{◌∙◌, sym}
use Rattle.prism_lex.specs.declared.token.TokenKind.TheVariants as K
use Rattle.prism_lex.specs.declared.words.Reserved.TheVariants as W
use Rattle.prism_tree.specs.Syntax.{range_of}
use Rattle.prism_exprs.proofs.Laws.{gives_word, gives_reads}
use Rattle.prism_exprs.proofs.Outer.{leaves_in}
use Rattle.prism_items.specs.Parts.{in_scope, domain}
use Rattle.prism_items.proofs.Leading.{followed, step, halt}
use Rattle.prism_items.proofs.Declaring.{range_one}
use Rattle.prism_items.proofs.Choosing.{domain_range, domain_bool, domain_int, domain_missing}
use Rattle.prism_items.proofs.declarations.parse_domain.Goals as goal

pub returns-in_err-range : goal.returns-in_err-range
returns-in_err-range c = leaves_in _ _ _ _ _ _ c.from_residual.ensures (λ s. halt _ _ s (domain_range s _ (sym c.symbol_next.ensures ∙ c.if-symbol_next.true)) (λ _. gives_word _) _ (c.in_err-range.ensures s))

pub returns-then-symbol_next : goal.returns-then-symbol_next
returns-then-symbol_next c = λ s. ((step _ _ (domain_range s _ (sym c.symbol_next.ensures ∙ c.if-symbol_next.true)) (range_one s) (c.in_ok-range.ensures s)).reads _ _ (gives_reads _ _))

pub returns-then-word_next : goal.returns-then-word_next
returns-then-word_next c =
    followed (option_map range_of) (in_scope domain) _ (K.Word W.BoolWord) None _ _ c.read_word.result c.followed_by.result
    (λ s. domain_bool s _ (sym c.word_next.ensures ∙ c.if-word_next.true)) c.read_word.ensures c.followed_by.ensures

pub returns-then-word_next-2 : goal.returns-then-word_next-2
returns-then-word_next-2 c = domain_int _ (sym c.word_next-2.ensures ∙ c.if-word_next-2.true)

pub returns : goal.returns
returns c = domain_missing _ (sym c.symbol_next.ensures ∙ c.if-symbol_next.false) (sym c.word_next.ensures ∙ c.if-word_next.false) (sym c.word_next-2.ensures ∙ c.if-word_next-2.false)
