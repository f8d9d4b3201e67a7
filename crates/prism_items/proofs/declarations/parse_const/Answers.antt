use Rattle.prism_tree.specs.Grammar.{const_item}
use Rattle.prism_exprs.specs.Reading.{none}
use Rattle.prism_exprs.proofs.Laws.{token_one, token_word, then_word, gives_word, gives_reads}
use Rattle.prism_exprs.proofs.Choice.{then_opens}
use Rattle.prism_exprs.proofs.Outer.{leaves_in}
use Rattle.prism_items.specs.Parts.{in_scope}
use Rattle.prism_items.proofs.Leading.{begin, step, halt}
use Rattle.prism_items.proofs.Declaring.{name_one, name_word, type_word, name_opens, value_one}
use Rattle.prism_items.proofs.Closing.{closing, optional_word}
use Rattle.prism_items.proofs.Choosing.{typed}
use Rattle.prism_items.proofs.declarations.parse_const.Goals as goal

pub returns-in_err-_const : goal.returns-in_err-_const
unfolding const_item
returns-in_err-_const c = leaves_in _ _ _ _ _ _ c.from_residual.ensures (λ s. halt _ _ s (begin (in_scope const_item s) none _) (λ _. then_word (type_word s) (λ _. then_word (name_word) (λ _. then_word (optional_word _) (λ _. then_word (token_word _) (λ _. gives_word _))))) _ (c.in_err-_const.ensures s))

pub returns-in_err-name : goal.returns-in_err-name
unfolding const_item
returns-in_err-name c = leaves_in _ _ _ _ _ _ c.from_residual-in_err-name.ensures (λ s. halt _ _ s (typed s _ _ (λ ty. then_opens _ _ name_opens) (step _ _ (begin (in_scope const_item s) none _) (token_one _) (c.in_ok-_const.ensures s)) c.read_type-ty.ensures) (λ _. then_word (optional_word _) (λ _. then_word (token_word _) (λ _. gives_word _))) _ (c.in_err-name.ensures s))

pub returns-in_err-value : goal.returns-in_err-value
unfolding const_item
returns-in_err-value c = leaves_in _ _ _ _ _ _ c.from_residual-in_err-value.ensures (λ s. halt _ _ s (closing _ _ _ (step _ _ (typed s _ _ (λ ty. then_opens _ _ name_opens) (step _ _ (begin (in_scope const_item s) none _) (token_one _) (c.in_ok-_const.ensures s)) c.read_type-ty.ensures) (name_one) (c.in_ok-name.ensures s))) (λ _. gives_word _) _ (c.in_err-value.ensures s))

pub returns : goal.returns
unfolding const_item
returns c = λ s. ((step _ _ (closing _ _ _ (step _ _ (typed s _ _ (λ ty. then_opens _ _ name_opens) (step _ _ (begin (in_scope const_item s) none _) (token_one _) (c.in_ok-_const.ensures s)) c.read_type-ty.ensures) (name_one) (c.in_ok-name.ensures s))) (value_one s) (c.in_ok-value.ensures s)).reads _ _ (gives_reads _ _))
