use Rattle.std.specs.Prelude.{Some, None}
use Rattle.std.proofs.Common.{◌∙◌, sym}
use Rattle.prism_lex.specs.declared.token.TokenKind.TheVariants as K
use Rattle.prism_lex.specs.declared.symbols.Symbol.TheVariants as S
use Rattle.prism_exprs.proofs.Laws.{token_word, then_word, gives_word}
use Rattle.prism_exprs.proofs.Outer.{leaves_in}
use Rattle.prism_items.specs.Parts.{in_scope, action_part}
use Rattle.prism_items.proofs.Leading.{followed, step, halt}
use Rattle.prism_items.proofs.Declaring.{name_one}
use Rattle.prism_items.proofs.Building.{action_none, action_some}
use Rattle.prism_items.proofs.modules.parse_action.Goals as goal

pub returns-then-symbol_next : goal.returns-then-symbol_next
returns-then-symbol_next c =
    followed (λ x. x) (in_scope action_part) _ (K.Symbol S.RightBracket) None _ _ c.read_symbol.result c.followed_by.result
    (λ s. action_none s _ (sym c.symbol_next.ensures ∙ c.if-symbol_next.true)) c.read_symbol.ensures c.followed_by.ensures

pub returns-in_err-name : goal.returns-in_err-name
returns-in_err-name c = leaves_in _ _ _ _ _ _ c.from_residual.ensures (λ s. halt _ _ s (action_some s _ (sym c.symbol_next.ensures ∙ c.if-symbol_next.false)) (λ _. then_word (token_word _) (λ _. gives_word _)) _ (c.in_err-name.ensures s))

pub returns : goal.returns
returns c =
    followed (λ x. x) (in_scope action_part) _ (K.Symbol S.RightBracket) (Some c.in_ok-name.name) _ _ c.read_symbol-2.result c.followed_by-2.result
    (λ s. step _ _ (action_some s _ (sym c.symbol_next.ensures ∙ c.if-symbol_next.false)) name_one (c.in_ok-name.ensures s)) c.read_symbol-2.ensures c.followed_by-2.ensures
