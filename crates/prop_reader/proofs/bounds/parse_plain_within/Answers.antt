use Rattle.prism_exprs.specs.Levels.{goes_on}
use Rattle.prism_exprs.proofs.Laws.{gives_word}
use Rattle.prism_exprs.proofs.Exprs.{gives_follows}
use Rattle.prism_items.proofs.Leading.{step_to, halt_at}
use Rattle.prism_exprs.proofs.Outer.{expressions_one, leaves_in}
use Rattle.prism_items.proofs.Choosing.{gives_here}
use Rattle.prop_reader.proofs.Deciding.{plain_leads, plain_stops}
use Rattle.prop_reader.proofs.bounds.parse_plain_within.Goals as goal

pub returns-in_err-bound : goal.returns-in_err-bound
returns-in_err-bound c = leaves_in _ _ _ _ _ _ c.from_residual.ensures (λ s. plain_stops s _ _ c.requires (c.in_err-bound.ensures s))

pub returns-in_err-whole : goal.returns-in_err-whole
returns-in_err-whole c = leaves_in _ _ _ _ _ _ c.from_residual-in_err-whole.ensures (λ s. halt_at _ _ s (plain_leads s _ _ _ (c.in_ok-bound.ensures s)) (λ e. gives_word _) (gives_follows (λ e. (_, e)) goes_on) _ (c.in_err-whole.ensures s))

pub returns : goal.returns
returns c = λ s. (step_to _ _ (plain_leads s _ _ _ (c.in_ok-bound.ensures s)) (expressions_one s) (gives_follows (λ e. (_, e)) goes_on) (c.in_ok-whole.ensures s)).reads _ _ (gives_here _ goes_on _ (c.in_ok-whole.ensures s).ends)
