use Rattle.prism_check.specs.Tables.{module_under}
use Rattle.name_rules.specs.Names.{under}
use Rattle.prism_check.proofs.Owners.{module_more}
use Rattle.prism_check.proofs.variables.add_all.Goals as goal

pub loop-number-preserved : goal.loop-number-preserved
loop-number-preserved c = λ q.
    module_more (under c.loop-number.table) (under c.add_module.new.table) q _ (module_under c.args.modules.now) c.args.all.now c.loop-number.number _
    c.loop-number-test.true c.index-all-number.is (c.in_ok-add_module.ensures q) (c.loop-number.invariant q)
