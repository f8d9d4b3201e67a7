use Rattle.std.proofs.Common.{sym, ◌∙◌}
use Rattle.process_core.specs.Equal.{equal_values_is}
use Rattle.expr_store.proofs.node.are_same_values.Goals as goal

pub returns : goal.returns
returns c h = (equal_values_is c.args.v c.args.w).0 (sym c.equal_values.ensures ∙ h)
