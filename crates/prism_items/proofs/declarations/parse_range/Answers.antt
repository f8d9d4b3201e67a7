use Rattle.std.proofs.Common.{refl}
use Rattle.prism_tree.specs.Grammar.{range}
use Rattle.prism_exprs.specs.Reading.{none}
use Rattle.prism_exprs.proofs.Laws.{token_one, token_word, then_word, gives_word, gives_reads}
use Rattle.prism_exprs.proofs.Outer.{expressions_word, leaves_in}
use Rattle.prism_items.specs.Parts.{in_scope}
use Rattle.prism_items.proofs.Leading.{begin, step, halt}
use Rattle.prism_items.proofs.Closing.{closing, closed_expression_one}
use Rattle.prism_items.proofs.declarations.parse_range.Goals as goal

pub returns-in_err-_left : goal.returns-in_err-_left
unfolding range
returns-in_err-_left c = leaves_in _ _ _ _ _ _ c.from_residual.ensures (λ s. halt _ _ s (begin (in_scope range s) none _) (λ _. then_word (expressions_word s) (λ _. then_word (token_word _) (λ _. then_word (expressions_word s) (λ _. then_word (token_word _) (λ _. gives_word _))))) _ (c.in_err-_left.ensures s))

pub returns-in_err-low : goal.returns-in_err-low
unfolding range
returns-in_err-low c = leaves_in _ _ _ _ _ _ c.from_residual-in_err-low.ensures (λ s. halt _ _ s (closing _ _ _ (step _ _ (begin (in_scope range s) none _) (token_one _) (c.in_ok-_left.ensures s))) (λ _. then_word (expressions_word s) (λ _. then_word (token_word _) (λ _. gives_word _))) _ (c.in_err-low.ensures s))

pub returns-in_err-high : goal.returns-in_err-high
unfolding range
returns-in_err-high c = leaves_in _ _ _ _ _ _ c.from_residual-in_err-high.ensures (λ s. halt _ _ s (closing _ _ _ (step _ _ (closing _ _ _ (step _ _ (begin (in_scope range s) none _) (token_one _) (c.in_ok-_left.ensures s))) (closed_expression_one s _ refl) (c.in_ok-low.ensures s))) (λ _. gives_word _) _ (c.in_err-high.ensures s))

pub returns : goal.returns
unfolding range
returns c = λ s. (step _ _ (closing _ _ _ (step _ _ (closing _ _ _ (step _ _ (begin (in_scope range s) none _) (token_one _) (c.in_ok-_left.ensures s))) (closed_expression_one s _ refl) (c.in_ok-low.ensures s))) (closed_expression_one s _ refl) (c.in_ok-high.ensures s)).reads _ _ (gives_reads _ _)
