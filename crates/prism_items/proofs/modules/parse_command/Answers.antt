use Rattle.std.proofs.Common.{refl}
use Rattle.prism_tree.specs.Grammar.{command}
use Rattle.prism_exprs.specs.Reading.{none}
use Rattle.prism_exprs.proofs.Laws.{token_word, then_word, gives_word, gives_reads}
use Rattle.prism_exprs.proofs.Outer.{expressions_word, leaves_in}
use Rattle.prism_items.specs.Parts.{in_scope}
use Rattle.prism_items.proofs.Leading.{begin, step, halt}
use Rattle.prism_items.proofs.Closing.{closing, defining, closed_expression_one}
use Rattle.prism_items.proofs.Building.{brackets_one}
use Rattle.prism_items.proofs.Splitting.{ended_updates_one, updates_word}
use Rattle.prism_items.proofs.modules.parse_command.Goals as goal

pub returns-in_err-action : goal.returns-in_err-action
unfolding command
returns-in_err-action c = leaves_in _ _ _ _ _ _ c.from_residual.ensures (λ s. halt _ _ s (defining _ _ _ _ (begin (in_scope command s) none _)) (λ _. then_word (expressions_word s) (λ _. then_word (token_word _) (λ _. then_word (updates_word s) (λ _. then_word (token_word _) (λ _. gives_word _))))) _ (c.in_err-action.ensures s))

pub returns-in_err-guard : goal.returns-in_err-guard
unfolding command
returns-in_err-guard c = leaves_in _ _ _ _ _ _ c.from_residual-in_err-guard.ensures (λ s. halt _ _ s (closing _ _ _ (step _ _ (defining _ _ _ _ (begin (in_scope command s) none _)) (brackets_one s) (c.in_ok-action.ensures s))) (λ _. then_word (updates_word s) (λ _. then_word (token_word _) (λ _. gives_word _))) _ (c.in_err-guard.ensures s))

pub returns-in_err-branches : goal.returns-in_err-branches
unfolding command
returns-in_err-branches c = leaves_in _ _ _ _ _ _ c.from_residual-in_err-branches.ensures (λ s. halt _ _ s (closing _ _ _ (step _ _ (closing _ _ _ (step _ _ (defining _ _ _ _ (begin (in_scope command s) none _)) (brackets_one s) (c.in_ok-action.ensures s))) (closed_expression_one s _ refl) (c.in_ok-guard.ensures s))) (λ _. gives_word _) _ (c.in_err-branches.ensures s))

pub returns : goal.returns
unfolding command
returns c = λ s. (step _ _ (closing _ _ _ (step _ _ (closing _ _ _ (step _ _ (defining _ _ _ _ (begin (in_scope command s) none _)) (brackets_one s) (c.in_ok-action.ensures s))) (closed_expression_one s _ refl) (c.in_ok-guard.ensures s))) (ended_updates_one s) (c.in_ok-branches.ensures s)).reads _ _ (gives_reads _ _)
