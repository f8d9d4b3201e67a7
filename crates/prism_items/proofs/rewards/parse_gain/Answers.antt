use Rattle.std.proofs.Common.{refl}
use Rattle.prism_exprs.specs.Reading.{none}
use Rattle.prism_exprs.proofs.Laws.{token_word, then_word, gives_word, gives_reads}
use Rattle.prism_exprs.proofs.Outer.{expressions_word, leaves_in}
use Rattle.prism_items.specs.Parts.{gain, in_scope}
use Rattle.prism_items.proofs.Leading.{begin, step, halt}
use Rattle.prism_items.proofs.Closing.{closing, closed_expression_one}
use Rattle.prism_items.proofs.rewards.parse_gain.Goals as goal

pub returns-in_err-guard : goal.returns-in_err-guard
unfolding gain
returns-in_err-guard c = leaves_in _ _ _ _ _ _ c.from_residual.ensures (λ s. halt _ _ s (closing _ _ _ (begin (in_scope (gain c.args.on) s) none _)) (λ _. then_word (expressions_word s) (λ _. then_word (token_word _) (λ _. gives_word _))) _ (c.in_err-guard.ensures s))

pub returns-in_err-value : goal.returns-in_err-value
unfolding gain
returns-in_err-value c = leaves_in _ _ _ _ _ _ c.from_residual-in_err-value.ensures (λ s. halt _ _ s (closing _ _ _ (step _ _ (closing _ _ _ (begin (in_scope (gain c.args.on) s) none _)) (closed_expression_one s _ refl) (c.in_ok-guard.ensures s))) (λ _. gives_word _) _ (c.in_err-value.ensures s))

pub returns : goal.returns
unfolding gain
returns c = λ s. (step _ _ (closing _ _ _ (step _ _ (closing _ _ _ (begin (in_scope (gain c.args.on) s) none _)) (closed_expression_one s _ refl) (c.in_ok-guard.ensures s))) (closed_expression_one s _ refl) (c.in_ok-value.ensures s)).reads _ _ (gives_reads _ _)
