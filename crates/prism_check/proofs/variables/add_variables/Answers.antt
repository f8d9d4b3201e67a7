use Rattle.std.specs.Prelude.{unwrap_or}
use Rattle.std.proofs.Common.{◌∙◌, ap}
use Rattle.prism_check.specs.Tables.{new_name}
use Rattle.name_rules.specs.Names.{under}
use Rattle.name_rules.proofs.Maps.{at}
use Rattle.prism_check.proofs.Owners.{variable_more}
use Rattle.prism_check.proofs.variables.add_variables.Goals as goal

pub loop-var-preserved : goal.loop-var-preserved
loop-var-preserved c = λ q.
    variable_more (under c.loop-var.table) (under c.put_first.new.self) q _ (new_name c.args.renaming.now) c.args.owner c.args.vars.now c.loop-var.var-index _ _ _
    c.loop-var-test.true c.var-item.is
    (c.read_as-name.ensures ∙ ap (λ n. unwrap_or (new_name c.args.renaming.now n) n) c.as_str.ensures) c.type_of-ty.ensures (at c.in_ok-put_first.ensures q) (c.loop-var.invariant q)
