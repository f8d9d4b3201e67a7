use Rattle.prism_tree.specs.Syntax.{module_of}
use Rattle.prism_check.specs.Tables.{copy_faults_by, module_under}
use Rattle.name_rules.proofs.Append.{soonest_next}
use Rattle.prism_check.proofs.copies.judge_copies.Goals as goal

pub loop-entry-preserved : goal.loop-entry-preserved
loop-entry-preserved c =
    soonest_next module_of (copy_faults_by (module_under c.args.modules.now)) c.args.all.now c.loop-entry.entry-index _ _ _ _
    c.loop-entry-test.true c.entry-item.is c.in_ok-best.ensures c.loop-entry.invariant
