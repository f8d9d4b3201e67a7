use Rattle.prism_exprs.proofs.Laws.{token_one, then_word, gives_word}
use Rattle.prism_exprs.proofs.Exprs.{gives_follows}
use Rattle.prism_exprs.proofs.Outer.{leaves_in}
use Rattle.prism_items.proofs.Leading.{begin, step, step_to, halt, halt_at}
use Rattle.prism_items.proofs.Choosing.{gives_here}
use Rattle.prop_grammar.specs.Property
use Rattle.prop_grammar.specs.Grammar
use Rattle.prop_reader.specs.Parts.{in_scope, opens}
use Rattle.prop_reader.proofs.Single.{comparison_one, comparison_word}
use Rattle.prop_reader.proofs.Bounding.{bound_one, bound_word}
use Rattle.prop_reader.proofs.queries.parse_comparison.Goals as goal

pub returns-in_err-_word : goal.returns-in_err-_word
unfolding Grammar.compared_probability
returns-in_err-_word c = leaves_in _ _ _ _ _ _ c.from_residual.ensures (λ s. halt _ _ s (begin (in_scope Grammar.compared_probability s) opens _) (λ _. then_word (comparison_word) (λ _. then_word (bound_word s) (λ _. gives_word _))) _ (c.in_err-_word.ensures s))

pub returns-in_err-compare : goal.returns-in_err-compare
unfolding Grammar.compared_probability
returns-in_err-compare c = leaves_in _ _ _ _ _ _ c.from_residual-in_err-compare.ensures (λ s. halt _ _ s (step _ _ (begin (in_scope Grammar.compared_probability s) opens _) (token_one _) (c.in_ok-_word.ensures s)) (λ _. then_word (bound_word s) (λ _. gives_word _)) _ (c.in_err-compare.ensures s))

pub returns-in_err-bound : goal.returns-in_err-bound
unfolding Grammar.compared_probability
returns-in_err-bound c = leaves_in _ _ _ _ _ _ c.from_residual-in_err-bound.ensures (λ s. halt_at _ _ s (step _ _ (step _ _ (begin (in_scope Grammar.compared_probability s) opens _) (token_one _) (c.in_ok-_word.ensures s)) (comparison_one) (c.in_ok-compare.ensures s)) (λ _. gives_word _) (gives_follows (λ p. Property.bounded _ p) opens) _ (c.in_err-bound.ensures s))

pub returns : goal.returns
unfolding Grammar.compared_probability
returns c = λ s. ((step_to _ _ (step _ _ (step _ _ (begin (in_scope Grammar.compared_probability s) opens _) (token_one _) (c.in_ok-_word.ensures s)) (comparison_one) (c.in_ok-compare.ensures s)) (bound_one s) (gives_follows (λ p. Property.bounded _ p) opens) (c.in_ok-bound.ensures s)).reads _ _ (gives_here _ opens _ (c.in_ok-bound.ensures s).ends))
