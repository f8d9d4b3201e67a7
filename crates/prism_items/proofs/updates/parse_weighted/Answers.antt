use Rattle.std.proofs.Common.{refl}
use Rattle.prism_tree.specs.Grammar.{weighted}
use Rattle.prism_exprs.proofs.Laws.{then_word, gives_word}
use Rattle.prism_exprs.proofs.Exprs.{gives_follows}
use Rattle.prism_exprs.proofs.Outer.{leaves_in}
use Rattle.prism_items.specs.Parts.{in_scope, writes_on}
use Rattle.prism_items.proofs.Leading.{begin, step, step_to, halt, halt_at}
use Rattle.prism_items.proofs.Closing.{closing, closed_expression_one}
use Rattle.prism_items.proofs.Updating.{update_one, update_word}
use Rattle.prism_items.proofs.Choosing.{gives_here}
use Rattle.prism_items.proofs.updates.parse_weighted.Goals as goal

pub returns-in_err-weight : goal.returns-in_err-weight
unfolding weighted
returns-in_err-weight c = leaves_in _ _ _ _ _ _ c.from_residual.ensures (λ s. halt _ _ s (closing _ _ _ (begin (in_scope weighted s) writes_on _)) (λ _. then_word (update_word s) (λ _. gives_word _)) _ (c.in_err-weight.ensures s))

pub returns-in_err-writes : goal.returns-in_err-writes
unfolding weighted
returns-in_err-writes c = leaves_in _ _ _ _ _ _ c.from_residual-in_err-writes.ensures (λ s. halt_at _ _ s (step _ _ (closing _ _ _ (begin (in_scope weighted s) writes_on _)) (closed_expression_one s _ refl) (c.in_ok-weight.ensures s)) (λ _. gives_word _) (gives_follows _ writes_on) _ (c.in_err-writes.ensures s))

pub returns : goal.returns
unfolding weighted
returns c = λ s. (step_to _ _ (step _ _ (closing _ _ _ (begin (in_scope weighted s) writes_on _)) (closed_expression_one s _ refl) (c.in_ok-weight.ensures s)) (update_one s) (gives_follows _ writes_on) (c.in_ok-writes.ensures s)).reads _ _ (gives_here _ writes_on _ (c.in_ok-writes.ensures s).ends)
