use Rattle.std.specs.Prelude.{None}
use Rattle.std.specs.Option.{option_map}
use Rattle.std.proofs.Common.{◌∙◌, sym, refl}
use Rattle.op_trees.specs.Tree.{tree}
use Rattle.prism_lex.specs.declared.token.TokenKind.TheVariants as K
use Rattle.prism_lex.specs.declared.symbols.Symbol.TheVariants as S
use Rattle.prism_exprs.proofs.Laws.{gives_word, gives_reads}
use Rattle.prism_exprs.proofs.Outer.{leaves_in}
use Rattle.prism_items.specs.Parts.{in_scope, value_part}
use Rattle.prism_items.proofs.Leading.{followed, step, halt}
use Rattle.prism_items.proofs.Closing.{defining, definition_one}
use Rattle.prism_items.proofs.Choosing.{ended_none, ended_some}
use Rattle.prism_items.proofs.declarations.parse_value.Goals as goal

pub returns-then-not-symbol_next : goal.returns-then-not-symbol_next
returns-then-not-symbol_next c =
    followed (option_map tree) (in_scope value_part) _ (K.Symbol S.Semicolon) None _ _ c.read_symbol.result c.followed_by.result
    (λ s. ended_none s (K.Symbol S.Equal) _ refl (sym c.symbol_next.ensures ∙ c.if-not-symbol_next.true)) c.read_symbol.ensures c.followed_by.ensures

pub returns-in_err-value : goal.returns-in_err-value
returns-in_err-value c = leaves_in _ _ _ _ _ _ c.from_residual.ensures (λ s. halt _ _ s (defining _ _ _ _ (ended_some s (K.Symbol S.Equal) _ refl (sym c.symbol_next.ensures ∙ c.if-not-symbol_next.false))) (λ _. gives_word _) _ (c.in_err-value.ensures s))

pub returns : goal.returns
returns c = λ s. (step _ _ (defining _ _ _ _ (ended_some s (K.Symbol S.Equal) _ refl (sym c.symbol_next.ensures ∙ c.if-not-symbol_next.false))) (definition_one s) (c.in_ok-value.ensures s)).reads _ _ (gives_reads _ _)
