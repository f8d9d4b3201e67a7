use Rattle.std.proofs.Common.{sym, ◌∙◌}
use Rattle.prism_exprs.proofs.Symbols.{closed_fails, closed_reads}
use Rattle.prism_exprs.proofs.parts.closed.Goals as goal

pub returns-then-symbol_next : goal.returns-then-symbol_next
returns-then-symbol_next c = closed_fails _ _ (sym c.symbol_next.ensures ∙ c.if-symbol_next.true)

pub returns : goal.returns
returns c = closed_reads _ _ (sym c.symbol_next.ensures ∙ c.if-symbol_next.false)
