use Rattle.std.specs.Prelude.{suc, unwrap_or}
use Rattle.std.specs.Option.{option_map}
use Rattle.expr_store.proofs.store.ExprStore.equal_from.Given as goal

-- it goes to nodes that were put before
abbrev pub decreases-loop-next : goal.decreases-loop-next
decreases-loop-next g l = unwrap_or (option_map suc l.next) 0
