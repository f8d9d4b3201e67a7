use Rattle.prism_tree.specs.Grammar.{pair}
use Rattle.prism_exprs.specs.Reading.{none}
use Rattle.prism_exprs.proofs.Laws.{token_word, then_word, gives_word, gives_reads}
use Rattle.prism_exprs.proofs.Outer.{leaves_in}
use Rattle.prism_items.specs.Parts.{in_scope}
use Rattle.prism_items.proofs.Leading.{begin, step, halt}
use Rattle.prism_items.proofs.Closing.{grouping}
use Rattle.prism_items.proofs.Declaring.{name_one, name_word}
use Rattle.prism_items.proofs.Building.{equal_name_one}
use Rattle.prism_items.proofs.modules.parse_pair.Goals as goal

pub returns-in_err-old : goal.returns-in_err-old
unfolding pair
returns-in_err-old c = leaves_in _ _ _ _ _ _ c.from_residual.ensures (λ s. halt _ _ s (begin (in_scope pair s) none _) (λ _. then_word (token_word _) (λ _. then_word name_word (λ _. gives_word _))) _ (c.in_err-old.ensures s))

pub returns-in_err-new : goal.returns-in_err-new
unfolding pair
returns-in_err-new c = leaves_in _ _ _ _ _ _ c.from_residual-in_err-new.ensures (λ s. halt _ _ s (grouping _ _ _ (step _ _ (begin (in_scope pair s) none _) name_one (c.in_ok-old.ensures s))) (λ _. gives_word _) _ (c.in_err-new.ensures s))

pub returns : goal.returns
unfolding pair
returns c = λ s. (step _ _ (grouping _ _ _ (step _ _ (begin (in_scope pair s) none _) name_one (c.in_ok-old.ensures s))) (equal_name_one s) (c.in_ok-new.ensures s)).reads _ _ (gives_reads _ _)
