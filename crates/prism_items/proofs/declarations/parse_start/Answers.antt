use Rattle.std.specs.Prelude.{None}
use Rattle.std.specs.Option.{option_map}
use Rattle.std.proofs.Common.{◌∙◌, sym, refl}
use Rattle.op_trees.specs.Tree.{tree}
use Rattle.prism_lex.specs.declared.token.TokenKind.TheVariants as K
use Rattle.prism_lex.specs.declared.symbols.Symbol.TheVariants as S
use Rattle.prism_lex.specs.declared.words.Reserved.TheVariants as W
use Rattle.prism_exprs.proofs.Laws.{token_one, token_word, then_word, gives_word, gives_reads}
use Rattle.prism_exprs.proofs.Outer.{expressions_word, leaves_in}
use Rattle.prism_items.specs.Parts.{in_scope, start_part}
use Rattle.prism_items.proofs.Leading.{followed, step, halt}
use Rattle.prism_items.proofs.Closing.{closing, closed_expression_one}
use Rattle.prism_items.proofs.Choosing.{ended_none, ended_some}
use Rattle.prism_items.proofs.declarations.parse_start.Goals as goal

pub returns-then-not-word_next : goal.returns-then-not-word_next
returns-then-not-word_next c =
    followed (option_map tree) (in_scope start_part) _ (K.Symbol S.Semicolon) None _ _ c.read_symbol.result c.followed_by.result
    (λ s. ended_none s (K.Word W.Init) _ refl (sym c.word_next.ensures ∙ c.if-not-word_next.true)) c.read_symbol.ensures c.followed_by.ensures

pub returns-in_err-_init : goal.returns-in_err-_init
returns-in_err-_init c = leaves_in _ _ _ _ _ _ c.from_residual.ensures (λ s. halt _ _ s (ended_some s (K.Word W.Init) _ refl (sym c.word_next.ensures ∙ c.if-not-word_next.false)) (λ _. then_word (expressions_word s) (λ _. then_word (token_word _) (λ _. gives_word _))) _ (c.in_err-_init.ensures s))

pub returns-in_err-start : goal.returns-in_err-start
returns-in_err-start c = leaves_in _ _ _ _ _ _ c.from_residual-in_err-start.ensures (λ s. halt _ _ s (closing _ _ _ (step _ _ (ended_some s (K.Word W.Init) _ refl (sym c.word_next.ensures ∙ c.if-not-word_next.false)) (token_one _) (c.in_ok-_init.ensures s))) (λ _. gives_word _) _ (c.in_err-start.ensures s))

pub returns : goal.returns
returns c = λ s. (step _ _ (closing _ _ _ (step _ _ (ended_some s (K.Word W.Init) _ refl (sym c.word_next.ensures ∙ c.if-not-word_next.false)) (token_one _) (c.in_ok-_init.ensures s))) (closed_expression_one s _ refl) (c.in_ok-start.ensures s)).reads _ _ (gives_reads _ _)
