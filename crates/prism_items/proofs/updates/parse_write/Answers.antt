use Rattle.std.proofs.Common.{refl}
use Rattle.prism_tree.specs.Grammar.{write}
use Rattle.prism_exprs.specs.Reading.{none}
use Rattle.prism_exprs.proofs.Laws.{token_word, then_word, gives_word, gives_reads}
use Rattle.prism_exprs.proofs.Outer.{expressions_word, leaves_in}
use Rattle.prism_items.specs.Parts.{in_scope}
use Rattle.prism_items.proofs.Leading.{begin, step, halt}
use Rattle.prism_items.proofs.Closing.{closing, closed_expression_one}
use Rattle.prism_items.proofs.Updating.{target_one, targeting}
use Rattle.prism_items.proofs.updates.parse_write.Goals as goal

pub returns-in_err-name : goal.returns-in_err-name
unfolding write
returns-in_err-name c = leaves_in _ _ _ _ _ _ c.from_residual.ensures (λ s. halt _ _ s (targeting s _ (begin (in_scope write s) none _)) (λ _. then_word (expressions_word s) (λ _. then_word (token_word _) (λ _. gives_word _))) _ (c.in_err-name.ensures s))

pub returns-in_err-value : goal.returns-in_err-value
unfolding write
returns-in_err-value c = leaves_in _ _ _ _ _ _ c.from_residual-in_err-value.ensures (λ s. halt _ _ s (closing _ _ _ (step _ _ (targeting s _ (begin (in_scope write s) none _)) (target_one s) (c.in_ok-name.ensures s))) (λ _. gives_word _) _ (c.in_err-value.ensures s))

pub returns : goal.returns
unfolding write
returns c = λ s. (step _ _ (closing _ _ _ (step _ _ (targeting s _ (begin (in_scope write s) none _)) (target_one s) (c.in_ok-name.ensures s))) (closed_expression_one s _ refl) (c.in_ok-value.ensures s)).reads _ _ (gives_reads _ _)
