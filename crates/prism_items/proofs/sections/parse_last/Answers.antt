use Rattle.std.proofs.Common.{◌∙◌, sym}
use Rattle.prism_items.specs.Files.{plain}
use Rattle.prism_exprs.proofs.Outer.{leaves_in}
use Rattle.prism_items.proofs.Listing.{leaves_blocks, last_done, last_halts, last_placed, last_refused, last_behind}
use Rattle.prism_items.proofs.sections.parse_last.Goals as goal

pub returns-in_err-whole-clause-read : goal.returns-in_err-whole-clause-read
returns-in_err-whole-clause-read c = leaves_in _ _ _ _ _ _ c.from_residual.ensures (λ s. last_halts s _ _ _ (c.in_err-whole.ensures.read s))

pub returns-in_err-whole-clause-blocked : goal.returns-in_err-whole-clause-blocked
returns-in_err-whole-clause-blocked c = leaves_blocks _ _ _ _ _ c.from_residual.ensures (last_placed _ _ _ c.in_err-whole.ensures.blocked)

pub returns-then-word_next-clause-read : goal.returns-then-word_next-clause-read
returns-then-word_next-clause-read c = λ s. last_refused s _ _ _ _ (c.in_ok-whole.ensures.read s) (sym c.word_next.ensures ∙ c.if-word_next.true)

pub returns-then-word_next-clause-blocked : goal.returns-then-word_next-clause-blocked
returns-then-word_next-clause-blocked c = last_behind _ _ _ _ (c.in_ok-whole.ensures.read plain)

pub returns-clause-read : goal.returns-clause-read
returns-clause-read c = λ s. last_done s _ _ _ _ (c.in_ok-whole.ensures.read s) (sym c.word_next.ensures ∙ c.if-word_next.false)
