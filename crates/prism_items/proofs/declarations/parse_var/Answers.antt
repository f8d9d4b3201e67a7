use Rattle.prism_tree.specs.Grammar.{var}
use Rattle.prism_exprs.specs.Reading.{none}
use Rattle.prism_exprs.proofs.Laws.{token_word, then_word, gives_word, gives_reads}
use Rattle.prism_exprs.proofs.Outer.{leaves_in}
use Rattle.prism_items.specs.Parts.{in_scope, domain}
use Rattle.prism_items.proofs.Leading.{begin, step, halt}
use Rattle.prism_items.proofs.Declaring.{name_one, domain_word, domain_part_one, start_one}
use Rattle.prism_items.proofs.Closing.{closing, grouping, optional_word}
use Rattle.prism_items.proofs.declarations.parse_var.Goals as goal

pub returns-in_err-name : goal.returns-in_err-name
unfolding var domain
returns-in_err-name c = leaves_in _ _ _ _ _ _ c.from_residual.ensures (λ s. halt _ _ s (begin (in_scope var s) none _) (λ _. then_word (token_word _) (λ _. then_word (domain_word s) (λ _. then_word (optional_word _) (λ _. then_word (token_word _) (λ _. gives_word _))))) _ (c.in_err-name.ensures s))

pub returns-in_err-range : goal.returns-in_err-range
unfolding var domain
returns-in_err-range c = leaves_in _ _ _ _ _ _ c.from_residual-in_err-range.ensures (λ s. halt _ _ s (grouping _ _ _ (step _ _ (begin (in_scope var s) none _) name_one (c.in_ok-name.ensures s))) (λ _. then_word (optional_word _) (λ _. then_word (token_word _) (λ _. gives_word _))) _ (c.in_err-range.ensures s))

pub returns-in_err-start : goal.returns-in_err-start
unfolding var domain
returns-in_err-start c = leaves_in _ _ _ _ _ _ c.from_residual-in_err-start.ensures (λ s. halt _ _ s (closing _ _ _ (step _ _ (grouping _ _ _ (step _ _ (begin (in_scope var s) none _) name_one (c.in_ok-name.ensures s))) (domain_part_one s) (c.in_ok-range.ensures s))) (λ _. gives_word _) _ (c.in_err-start.ensures s))

pub returns : goal.returns
unfolding var domain
returns c = λ s. (step _ _ (closing _ _ _ (step _ _ (grouping _ _ _ (step _ _ (begin (in_scope var s) none _) name_one (c.in_ok-name.ensures s))) (domain_part_one s) (c.in_ok-range.ensures s))) (start_one s) (c.in_ok-start.ensures s)).reads _ _ (gives_reads _ _)
