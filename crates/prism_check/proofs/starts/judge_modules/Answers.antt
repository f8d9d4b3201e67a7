use Rattle.prism_tree.specs.Syntax.{module_of}
use Rattle.prism_check.specs.NameFaults.{own_starts}
use Rattle.name_rules.proofs.Append.{soonest_next}
use Rattle.prism_check.proofs.starts.judge_modules.Goals as goal

pub loop-entry-preserved : goal.loop-entry-preserved
loop-entry-preserved c =
    soonest_next module_of own_starts c.args.all.now c.loop-entry.entry-index _ _ _ _
    c.loop-entry-test.true c.entry-item.is c.judge_module-best.ensures c.loop-entry.invariant
