use Rattle.std.proofs.Common.{sym, ◌∙◌, Some, None}
use Rattle.prism_exprs.specs.Levels.{goes_on}
use Rattle.prism_exprs.proofs.Laws.{token_one, then_word, gives_word}
use Rattle.prism_exprs.proofs.Exprs.{gives_follows}
use Rattle.prism_items.proofs.Leading.{step, step_to, halt, halt_at}
use Rattle.prism_exprs.proofs.Outer.{expressions_one, leaves_in}
use Rattle.prism_items.proofs.Choosing.{gives_here}
use Rattle.prop_grammar.specs.Grammar
use Rattle.prop_reader.proofs.Bounding.{within_one, within_word}
use Rattle.prop_reader.proofs.Choices
use Rattle.prop_reader.proofs.bounds.parse_target.Goals as goal

pub returns-in_err-_at_most : goal.returns-in_err-_at_most
unfolding Grammar.near_target
returns-in_err-_at_most c = leaves_in _ _ _ _ _ _ c.from_residual.ensures (λ s. halt _ _ s (Choices.near s _ (sym c.symbol_next.ensures ∙ c.if-symbol_next.true)) (λ _. then_word (within_word s) (λ _. gives_word _)) _ (c.in_err-_at_most.ensures s))

pub returns-in_err-bound : goal.returns-in_err-bound
unfolding Grammar.near_target
returns-in_err-bound c = leaves_in _ _ _ _ _ _ c.from_residual-in_err-bound.ensures (λ s. halt_at _ _ s (step _ _ (Choices.near s _ (sym c.symbol_next.ensures ∙ c.if-symbol_next.true)) (token_one _) (c.in_ok-_at_most.ensures s)) (λ _. gives_word _) (gives_follows (λ p. (Some p.0, p.1)) goes_on) _ (c.in_err-bound.ensures s))

pub returns-then-symbol_next : goal.returns-then-symbol_next
unfolding Grammar.near_target
returns-then-symbol_next c = λ s. ((step_to _ _ (step _ _ (Choices.near s _ (sym c.symbol_next.ensures ∙ c.if-symbol_next.true)) (token_one _) (c.in_ok-_at_most.ensures s)) (within_one s) (gives_follows (λ p. (Some p.0, p.1)) goes_on) (c.in_ok-bound.ensures s)).reads _ _ (gives_here _ goes_on _ (c.in_ok-bound.ensures s).ends))

pub returns-in_err-whole : goal.returns-in_err-whole
unfolding Grammar.any_target
returns-in_err-whole c = leaves_in _ _ _ _ _ _ c.from_residual-in_err-whole.ensures (λ s. halt_at _ _ s (Choices.anywhere s _ (sym c.symbol_next.ensures ∙ c.if-symbol_next.false)) (λ _. gives_word _) (gives_follows (λ e. (None, e)) goes_on) _ (c.in_err-whole.ensures s))

pub returns : goal.returns
unfolding Grammar.any_target
returns c = λ s. ((step_to _ _ (Choices.anywhere s _ (sym c.symbol_next.ensures ∙ c.if-symbol_next.false)) (expressions_one s) (gives_follows (λ e. (None, e)) goes_on) (c.in_ok-whole.ensures s)).reads _ _ (gives_here _ goes_on _ (c.in_ok-whole.ensures s).ends))
