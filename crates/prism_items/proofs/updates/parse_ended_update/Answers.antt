use Rattle.prism_exprs.specs.Reading.{none}
use Rattle.prism_exprs.proofs.Laws.{token_one, token_word, then_word, gives_word, gives_reads}
use Rattle.prism_exprs.proofs.Outer.{leaves_in}
use Rattle.prism_items.specs.Parts.{in_scope, ended_update}
use Rattle.prism_items.proofs.Leading.{begin, step, step_to, halt, halt_at}
use Rattle.prism_items.proofs.Updating.{update_one, alone_follows, read_as}
use Rattle.prism_items.proofs.updates.parse_ended_update.Goals as goal

pub returns-in_err-writes : goal.returns-in_err-writes
returns-in_err-writes c = leaves_in _ _ _ _ _ _ c.from_residual.ensures (λ s. halt_at _ _ s (begin (in_scope ended_update s) none _) (λ _. then_word (token_word _) (λ _. gives_word _)) alone_follows _ (c.in_err-writes.ensures s))

pub returns-in_err-_end : goal.returns-in_err-_end
returns-in_err-_end c = leaves_in _ _ _ _ _ _ c.from_residual-in_err-_end.ensures (λ s. halt _ _ s (step_to _ _ (begin (in_scope ended_update s) none _) (update_one s) alone_follows (c.in_ok-writes.ensures s)) (λ _. gives_word _) _ (c.in_err-_end.ensures s))

pub returns : goal.returns
returns c = λ s. read_as _ c.in_ok-branches.ensures ((step _ _ (step_to _ _ (begin (in_scope ended_update s) none _) (update_one s) alone_follows (c.in_ok-writes.ensures s)) (token_one _) (c.in_ok-_end.ensures s)).reads _ _ (gives_reads _ _))
