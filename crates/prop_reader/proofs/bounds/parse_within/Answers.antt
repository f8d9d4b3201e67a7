use Rattle.prism_exprs.specs.Levels.{goes_on}
use Rattle.prism_exprs.specs.Kept.{seen}
use Rattle.prism_exprs.proofs.Laws.{gives_word}
use Rattle.prism_exprs.proofs.Exprs.{gives_follows}
use Rattle.prism_exprs.proofs.Outer.{leaves_in}
use Rattle.prism_items.proofs.Leading.{step_to, halt_at}
use Rattle.prism_items.proofs.Choosing.{gives_here}
use Rattle.prop_reader.proofs.Limiting.{alone_some, alone_none}
use Rattle.prop_reader.proofs.Bounding.{unopened_one}
use Rattle.prop_reader.proofs.Deciding.{named_leads}
use Rattle.prop_reader.proofs.bounds.parse_within.Goals as goal

pub returns-in_err-whole-in-Some : goal.returns-in_err-whole-in-Some
returns-in_err-whole-in-Some c = leaves_in _ _ _ _ _ _ c.from_residual-in_err-whole-in-Some.ensures (λ s. halt_at _ _ s (named_leads s _ _ _ (alone_some (seen c.args.tokens) c.in_ok-alone.alone (c.in-Some.bound, c.in-Some.rest) c.in_ok-alone.ensures c.in-Some.is)) (λ e. gives_word _) (gives_follows (λ e. (_, e)) goes_on) _ (c.in_err-whole-in-Some.ensures s))

pub returns-in_ok-whole-in-Some : goal.returns-in_ok-whole-in-Some
returns-in_ok-whole-in-Some c = λ s. (step_to _ _ (named_leads s _ _ _ (alone_some (seen c.args.tokens) c.in_ok-alone.alone (c.in-Some.bound, c.in-Some.rest) c.in_ok-alone.ensures c.in-Some.is)) (unopened_one s) (gives_follows (λ e. (_, e)) goes_on) (c.in_ok-whole-in-Some.ensures s)).reads _ _ (gives_here _ goes_on _ (c.in_ok-whole-in-Some.ensures s).ends)

pub parse_plain_within-requires : goal.parse_plain_within-requires
parse_plain_within-requires c = alone_none (seen c.args.tokens) c.in_ok-alone.alone c.in_ok-alone.ensures c.in-None.is
