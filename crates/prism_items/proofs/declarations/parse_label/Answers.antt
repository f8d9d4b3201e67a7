use Rattle.prism_tree.specs.Grammar.{label_item}
use Rattle.prism_exprs.specs.Reading.{none}
use Rattle.prism_exprs.proofs.Laws.{token_one, token_word, then_word, gives_word, gives_reads}
use Rattle.prism_exprs.proofs.Outer.{expressions_word, leaves_in}
use Rattle.prism_items.specs.Parts.{in_scope}
use Rattle.prism_items.proofs.Leading.{begin, step, halt}
use Rattle.prism_items.proofs.Closing.{defining, definition_one}
use Rattle.prism_items.proofs.Declaring.{quoted_one, quoted_word}
use Rattle.prism_items.proofs.declarations.parse_label.Goals as goal

pub returns-in_err-_label : goal.returns-in_err-_label
unfolding label_item
returns-in_err-_label c = leaves_in _ _ _ _ _ _ c.from_residual.ensures (λ s. halt _ _ s (begin (in_scope label_item s) none _) (λ _. then_word quoted_word (λ _. then_word (token_word _) (λ _. then_word (expressions_word s) (λ _. then_word (token_word _) (λ _. gives_word _))))) _ (c.in_err-_label.ensures s))

pub returns-in_err-name : goal.returns-in_err-name
unfolding label_item
returns-in_err-name c = leaves_in _ _ _ _ _ _ c.from_residual-in_err-name.ensures (λ s. halt _ _ s (step _ _ (begin (in_scope label_item s) none _) (token_one _) (c.in_ok-_label.ensures s)) (λ _. then_word (token_word _) (λ _. then_word (expressions_word s) (λ _. then_word (token_word _) (λ _. gives_word _)))) _ (c.in_err-name.ensures s))

pub returns-in_err-body : goal.returns-in_err-body
unfolding label_item
returns-in_err-body c = leaves_in _ _ _ _ _ _ c.from_residual-in_err-body.ensures (λ s. halt _ _ s (defining _ _ _ _ (step _ _ (step _ _ (begin (in_scope label_item s) none _) (token_one _) (c.in_ok-_label.ensures s)) quoted_one (c.in_ok-name.ensures s))) (λ _. gives_word _) _ (c.in_err-body.ensures s))

pub returns : goal.returns
unfolding label_item
returns c = λ s. (step _ _ (defining _ _ _ _ (step _ _ (step _ _ (begin (in_scope label_item s) none _) (token_one _) (c.in_ok-_label.ensures s)) quoted_one (c.in_ok-name.ensures s))) (definition_one s) (c.in_ok-body.ensures s)).reads _ _ (gives_reads _ _)
