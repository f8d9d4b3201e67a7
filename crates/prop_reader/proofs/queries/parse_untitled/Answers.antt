use Rattle.std.proofs.Common.{None}
use Rattle.prism_exprs.proofs.Outer.{leaves_in}
use Rattle.prop_reader.proofs.queries.parse_untitled.Goals as goal

pub returns-in_err-ask : goal.returns-in_err-ask
returns-in_err-ask c = leaves_in _ _ _ _ _ _ c.from_residual.ensures (c.in_err-ask.ensures None)

pub returns : goal.returns
returns c = c.in_ok-ask.ensures None
