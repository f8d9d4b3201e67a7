use Rattle.std.proofs.Common.{List, ℕ, ◌++◌, ap}
use Rattle.std.proofs.lemmas.Result.{IfOk-equal}
use Rattle.prism_print.proofs.Steps.{update_is}
use Rattle.prism_print.proofs.commands.write_update.Goals as goal

pub returns-in_default : goal.returns-in_default
returns-in_default c = IfOk-equal c.write_list.result _ _ _ c.write_list.ensures (ap (λ (u : List ℕ). c.args.out.now.items ++ u) (update_is c.args.writes.now c.in_default.len_at_least))
