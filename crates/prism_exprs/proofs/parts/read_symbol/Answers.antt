use Rattle.std.proofs.Common.{rules}
use Rattle.prism_exprs.proofs.Symbols.{symbol_missing, symbol_fails, symbol_reads}
use Rattle.prism_exprs.proofs.parts.read_symbol.Goals as goal

pub returns-in_default : goal.returns-in_default
returns-in_default c = symbol_missing c.args.wanted _ _ c.in_default.ensures.cases

pub returns-then-not-is_symbol : goal.returns-then-not-is_symbol
returns-then-not-is_symbol c = symbol_fails _ _ c.args.wanted _ _ _ c.in-Some.ensures.cases.0 (search rules)

pub returns : goal.returns
returns c = symbol_reads _ _ c.args.wanted _ _ _ _ c.in-Some.ensures.cases.0 (search rules) c.with.ensures
