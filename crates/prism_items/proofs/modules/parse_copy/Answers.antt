use Rattle.prism_tree.specs.Grammar.{copy}
use Rattle.prism_exprs.specs.Reading.{none}
use Rattle.prism_exprs.proofs.Laws.{token_word, then_word, gives_word, gives_reads}
use Rattle.prism_exprs.proofs.Choice.{folding_word}
use Rattle.prism_exprs.proofs.Outer.{leaves_in}
use Rattle.prism_items.specs.Parts.{in_scope}
use Rattle.prism_items.proofs.Leading.{begin, step, halt}
use Rattle.prism_items.proofs.Closing.{grouping, enclosing}
use Rattle.prism_items.proofs.Building.{pair_word, equal_name_one, brackets_pairs_one}
use Rattle.prism_items.proofs.modules.parse_copy.Goals as goal

pub returns-in_err-from : goal.returns-in_err-from
unfolding copy
returns-in_err-from c = leaves_in _ _ _ _ _ _ c.from_residual.ensures (λ s. halt _ _ s (grouping _ _ _ (begin (in_scope (λ E V. copy E V c.args.name) s) none _)) (λ _. then_word (token_word _) (λ _. then_word (pair_word s) (λ _. then_word (folding_word _ _ _) (λ _. then_word (token_word _) (λ _. gives_word _))))) _ (c.in_err-from.ensures s))

pub returns-in_err-pairs : goal.returns-in_err-pairs
unfolding copy
returns-in_err-pairs c = leaves_in _ _ _ _ _ _ c.from_residual-in_err-pairs.ensures (λ s. halt _ _ s (enclosing _ _ _ _ _ (step _ _ (grouping _ _ _ (begin (in_scope (λ E V. copy E V c.args.name) s) none _)) (equal_name_one s) (c.in_ok-from.ensures s))) (λ _. gives_word _) _ (c.in_err-pairs.ensures s))

pub returns : goal.returns
unfolding copy
returns c = λ s. (step _ _ (enclosing _ _ _ _ _ (step _ _ (grouping _ _ _ (begin (in_scope (λ E V. copy E V c.args.name) s) none _)) (equal_name_one s) (c.in_ok-from.ensures s))) (brackets_pairs_one s) (c.in_ok-pairs.ensures s)).reads _ _ (gives_reads _ _)
